-- What the content of an option states, by its kind: sections 3.3.1 to 3.3.9.
use Rattle.quantity.specs.declared.count.DatalinkId.{DatalinkId}
use Rattle.quantity.specs.declared.count.LinkInstanceId.{LinkInstanceId}
use Rattle.quantity.specs.declared.count.FlowSequence.{FlowSequence}
use Rattle.meaning.specs.declared.message.ContextBytes.{ContextBytes}
use Rattle.std.specs.Prelude.{ℕ, ◌%◌, List, cond, length, get_or, drop, eqb, Option, Some, None}
use Rattle.facts.specs.Tables.{tabulate}
use Rattle.quantity.specs.Limits.{CHANNEL-IDS}
use Rattle.wire.specs.Numbers.{big_endian}
use Rattle.meaning.specs.declared.message.Window.{Window}
use Rattle.meaning.specs.declared.message.Control.{Control}
use Rattle.meaning.specs.declared.message.Data.{Data}
use Rattle.meaning.specs.Kinds.{DATALINK-IDENTIFIER, LINK-INSTANCE, DATALINK-CONTEXT, CHANNEL-STATUS, FLOW-WINDOW, CHANNEL-IDENTIFIER, EXPIRATION-TIME, FLOW-SEQUENCE}

-- for each type and channel the content of the option, or none
abbrev pub Table : Type 0
Table = ℕ → ℕ → Option (List ℕ)

-- no option at all
abbrev pub nothing : Table
nothing = λ kind channel. None

abbrev pub datalink_from : Option (List ℕ) → Option DatalinkId
datalink_from None = None
datalink_from (Some content) = Some (record { 0 = get_or content 0 0 })

-- "unsigned number, its length kept"
abbrev pub instance_from : Option (List ℕ) → Option (LinkInstanceId × ℕ)
instance_from None = None
instance_from (Some content) = Some (record { 0 = big_endian content }, length content)

-- "byte string": its bytes as the number that they spell, and its length
abbrev pub context_from : Option (List ℕ) → Option (ContextBytes × ℕ)
context_from None = None
context_from (Some content) = Some (record { 0 = big_endian content }, length content)

-- "Channel ID, 4 unused bits, 4-bit Status"
abbrev pub status_from : Option (List ℕ) → Option ℕ
status_from None = None
status_from (Some content) = Some (get_or content 1 0 % 16)

-- "Channel ID, 32-bit sequence"
abbrev pub sequence_from : Option (List ℕ) → Option FlowSequence
sequence_from None = None
sequence_from (Some content) = Some (record { 0 = big_endian (drop 1 content) })

-- "Channel ID, window or no window"
abbrev pub window_from : Option (List ℕ) → Option Window
window_from None = None
window_from (Some content) = cond (eqb (length content) 1) (Some Window.Empty) (Some (Window.Given (record { 0 = big_endian (drop 1 content) })))

abbrev pub channel_from : Option (List ℕ) → Option ℕ
channel_from None = None
channel_from (Some content) = Some (get_or content 0 0)

-- section 3.3.9: "32-bit unsigned integer"
abbrev pub expiration_from : Option (List ℕ) → Option ℕ
expiration_from None = None
expiration_from (Some content) = Some (big_endian content)

-- a data message's Flow Sequence, with its Channel ID
abbrev pub counted_from : Option (List ℕ) → Option (ℕ × FlowSequence)
counted_from None = None
counted_from (Some content) = Some (get_or content 0 0, record { 0 = big_endian (drop 1 content) })

-- "the meaning of a message is .. for each known kind (and channel) what is stated"
unfoldable pub control_stated : Table → Control
control_stated τ = record {
  datalink = datalink_from (τ DATALINK-IDENTIFIER 0);
  instance = instance_from (τ LINK-INSTANCE 0);
  context = context_from (τ DATALINK-CONTEXT 0);
  statuses = tabulate CHANNEL-IDS (λ n. status_from (τ CHANNEL-STATUS n));
  sequences = tabulate CHANNEL-IDS (λ n. sequence_from (τ FLOW-SEQUENCE n));
  windows = tabulate CHANNEL-IDS (λ n. window_from (τ FLOW-WINDOW n));
}

unfoldable pub data_stated : Table → Data
data_stated τ = record {
  datalink = datalink_from (τ DATALINK-IDENTIFIER 0);
  sequence = counted_from (τ FLOW-SEQUENCE 0);
  channel = channel_from (τ CHANNEL-IDENTIFIER 0);
  expiration = expiration_from (τ EXPIRATION-TIME 0);
}
