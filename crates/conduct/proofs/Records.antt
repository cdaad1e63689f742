-- What a record comes to, by its kind and its reading, and which number it has. Assumes nothing.
use Rattle.meaning.specs.declared.message.Plane.{Plane}
use Rattle.std.specs.Prelude.{Some, None, Ok}
use mathlib.Core.Path.{◌≡◌}
use mathlib.Core.List.{List, [], ◌∷◌}
use Prim.Native.Nat.{ℕ}
use lib.ListN.{length}
use Rattle.quantity.specs.declared.count.DatalinkId.{DatalinkId}
use Rattle.quantity.specs.declared.count.FlowSequence.{FlowSequence}
use Rattle.quantity.specs.declared.refusal.Refusal.{Refusal}
use Rattle.meaning.specs.declared.message.End.{End}
use Rattle.meaning.specs.declared.message.Plane.{Plane}
use Rattle.reader.specs.Readings.{Verdict, read_control, read_data, packet_of, plane_of}
use Rattle.reader.proofs.Planes.{data_of_control, control_of_data}
use Rattle.records.specs.Files.{kept}
use Rattle.ethernet.specs.declared.Kind.{Kind}
use Rattle.ethernet.specs.declared.Ports.{Ports}
use Rattle.ethernet.specs.Kinds.{kind_of}
use Rattle.ethernet.specs.Layers.{datagram_of}
use Rattle.conduct.specs.Outcomes.{Message, control, packet, nothing, message, outcome_by, outcome_of}
use Rattle.conduct.specs.Account.{messages_from, messages_of}

module _ (ports : Ports) (id : DatalinkId) (original : ℕ) (frame : List ℕ) where
  abbrev datagram : List ℕ
  datagram = datagram_of frame

  -- "Datagrams that the reader refuses are passed over."
  pub radio_refused_lem : (refusal : Refusal) → kind_of ports original frame ≡ Kind.Radio → (read_control End.Radio id datagram).verdict ≡ Verdict.Refused refusal
      → outcome_of ports id original frame ≡ nothing
  unfolding outcome_by
  radio_refused_lem refusal k e = rw (k, e)

  pub ips_refused : (refusal : Refusal) → kind_of ports original frame ≡ Kind.Ips → (read_data End.Ips id datagram).verdict ≡ Verdict.Refused refusal
      → outcome_of ports id original frame ≡ nothing
  unfolding outcome_by
  ips_refused refusal k e = rw (k, e)

  -- a control message of the IPS end and a data message of the radio are nothing here: a query's sequences are no base
  pub query_nothing : kind_of ports original frame ≡ Kind.Ips → plane_of datagram ≡ Ok Plane.Control → outcome_of ports id original frame ≡ nothing
  unfolding outcome_by
  query_nothing k p = rw (k, data_of_control End.Ips id datagram p)

  pub radio_data_nothing : kind_of ports original frame ≡ Kind.Radio → plane_of datagram ≡ Ok Plane.Data → outcome_of ports id original frame ≡ nothing
  unfolding outcome_by
  radio_data_nothing k p = rw (k, control_of_data End.Radio id datagram p)

  -- what is accepted
  pub radio_accepted : kind_of ports original frame ≡ Kind.Radio → (read_control End.Radio id datagram).verdict ≡ Verdict.Accepted
      → outcome_of ports id original frame ≡ message (control (read_control End.Radio id datagram).message.windows)
  unfolding outcome_by
  radio_accepted k e = rw (k, e)

  module _ (k : kind_of ports original frame ≡ Kind.Ips) (e : (read_data End.Ips id datagram).verdict ≡ Verdict.Accepted) where
    -- "no Channel Identifier: channel 0", where no sequence is carried
    pub unnamed_accepted : (read_data End.Ips id datagram).message.channel ≡ None → (read_data End.Ips id datagram).message.sequence ≡ None
        → outcome_of ports id original frame ≡ message (packet 0 (record { 0 = length (packet_of datagram) }) None)
    unfolding outcome_by
    unnamed_accepted c s = rw (k, e, c, s)

    pub plain_accepted : (channel : ℕ) → (read_data End.Ips id datagram).message.channel ≡ Some channel → (read_data End.Ips id datagram).message.sequence ≡ None
        → outcome_of ports id original frame ≡ message (packet channel (record { 0 = length (packet_of datagram) }) None)
    unfolding outcome_by
    plain_accepted channel c s = rw (k, e, c, s)

    pub counted_accepted : (channel other : ℕ) (own : FlowSequence) → (read_data End.Ips id datagram).message.channel ≡ Some channel
        → (read_data End.Ips id datagram).message.sequence ≡ Some (other, own)
        → outcome_of ports id original frame ≡ message (packet channel (record { 0 = length (packet_of datagram) }) (Some own))
    unfolding outcome_by
    counted_accepted channel other own c s = rw (k, e, c, s)

-- "by record number", every record counted: one behind two that are nothing is the third
pub third_record : (ports : Ports) (id : DatalinkId) (a b c : ℕ) (first second third : List ℕ) (stated : Message) → outcome_of ports id a first ≡ nothing
    → outcome_of ports id b second ≡ nothing → outcome_of ports id c third ≡ message stated
    → messages_of ports id (kept a first ∷ kept b second ∷ kept c third ∷ []) ≡ record { number = 3; message = stated } ∷ []
unfolding messages_from
third_record ports id a b c first second third stated e f g = rw (e, f, g)
