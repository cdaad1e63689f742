-- What a data message states so far, its seats and its answers: a sort of message.
use Rattle.quantity.specs.declared.count.FlowSequence.{FlowSequence}
use Rattle.std.specs.Prelude.{ℕ, List, Bool, true, false, cond, not, eqb, Option, Some, None}
use Rattle.quantity.specs.declared.count.DatalinkId.{DatalinkId}
use Rattle.meaning.specs.declared.message.End.{End}
use Rattle.meaning.specs.declared.message.Plane.TheVariants as planes
use Rattle.meaning.specs.declared.message.Data.{Data}
use Rattle.meaning.specs.Kinds.{DATALINK-IDENTIFIER, PACKET-DATA, CHANNEL-IDENTIFIER, EXPIRATION-TIME}
use Rattle.read_option.specs.Stated.{datalink_from, channel_from, expiration_from, counted_from, data_stated, nothing}
use Rattle.read_rules.specs.declared.answer.Verdict.{Verdict}
use Rattle.read_rules.specs.Sorts.{Sort, is_ours, unstated_datalink}
use Rattle.read_data.specs.declared.DataReading.{DataReading}

-- what a data message states so far, and whether Packet Data stands already
pub record Gathered : Type 0 where
  pub message : Data
  pub packet : Bool

abbrev pub given : Option (List ℕ) → Bool
given None = false
given (Some content) = true

abbrev pub unstated_counted : Option (ℕ × FlowSequence) → Bool
unstated_counted None = true
unstated_counted (Some (n, s)) = false

abbrev pub unstated_channel : Option ℕ → Bool
unstated_channel None = true
unstated_channel (Some n) = false

abbrev pub unstated_expiration : Option ℕ → Bool
unstated_expiration None = true
unstated_expiration (Some t) = false

unfoldable pub data_unstated : ℕ → ℕ → Gathered → Bool
data_unstated kind channel g =
    cond (eqb kind DATALINK-IDENTIFIER) (unstated_datalink g.message.datalink)
    (cond (eqb kind PACKET-DATA) (not g.packet)
    (cond (eqb kind CHANNEL-IDENTIFIER) (unstated_channel g.message.channel)
    (cond (eqb kind EXPIRATION-TIME) (unstated_expiration g.message.expiration)
    (unstated_counted g.message.sequence))))

unfoldable pub data_state : ℕ → ℕ → List ℕ → Gathered → Gathered
data_state kind channel content g =
    let m = g.message in
    cond (eqb kind DATALINK-IDENTIFIER) (record { message = record { datalink = datalink_from (Some content); sequence = m.sequence; channel = m.channel; expiration = m.expiration }; packet = g.packet })
    (cond (eqb kind PACKET-DATA) (record { message = m; packet = true })
    (cond (eqb kind CHANNEL-IDENTIFIER) (record { message = record { datalink = m.datalink; sequence = m.sequence; channel = channel_from (Some content); expiration = m.expiration }; packet = g.packet })
    (cond (eqb kind EXPIRATION-TIME) (record { message = record { datalink = m.datalink; sequence = m.sequence; channel = m.channel; expiration = expiration_from (Some content) }; packet = g.packet })
    (record { message = record { datalink = m.datalink; sequence = counted_from (Some content); channel = m.channel; expiration = m.expiration }; packet = g.packet }))))

-- number 10: "Flow Sequence in a data message without Channel Identifier, or of another channel"
abbrev pub pairs : Option (ℕ × FlowSequence) → Option ℕ → Bool
pairs None channel = true
pairs (Some (n, s)) None = false
pairs (Some (n, s)) (Some k) = eqb n k

unfoldable pub blank_data : Data
blank_data = data_stated nothing

unfoldable pub data_refused : ℕ → ℕ → DataReading
data_refused number place = record { verdict = Verdict.Refused (record { number = number; place = place }); message = blank_data }

unfoldable pub data_accepted : Gathered → DataReading
data_accepted g = record { verdict = Verdict.Accepted; message = g.message }

unfoldable pub data_other : DataReading
data_other = record { verdict = Verdict.OtherPlane; message = blank_data }

abbrev pub data_sort : End → DatalinkId → Sort Gathered DataReading
data_sort end id = record {
  plane = planes.Data;
  end = end;
  blank = record { message = blank_data; packet = false };
  closed = λ g. g.packet;
  unstated = data_unstated;
  state = data_state;
  paired = λ g. pairs g.message.sequence g.message.channel;
  ours = λ g. is_ours id g.message.datalink;
  accept = data_accepted;
  refuse = data_refused;
  other = data_other;
}
