-- Demand 2: "What we write reads back, by a reader configured with its Datalink ID": of what the calls hand over, in the output's first bytes, as the IPS end's.
use Rattle.quantity.specs.declared.count.FlowSequence.{FlowSequence}
use Rattle.quantity.specs.declared.refusal.Refusal.{Refusal}
use Rattle.std.specs.Prelude.{ℕ, ◌<◌, ◌^◌, List, ◌≡◌, length, take, Option, Result, Ok}
use Rattle.meaning.specs.declared.message.End.TheVariants as ends
use Rattle.reader.specs.Readings.{Verdict, read_data, packet_of}
use Rattle.ips_channel_rules.specs.Rules.{Terms, message_of}
use Rattle.ips_channel_calls.specs.declared.asking.NextAnswer.{NextAnswer}
use Rattle.ips_state.specs.State.{State, channel_at}

-- Next: the count that was answered, and in that many bytes the packet, that channel and that Flow Sequence
pub record ReadBack (k : Terms) (id : ℕ) (packet : List ℕ) (sequence : Option FlowSequence) (answer : Result NextAnswer Refusal) (out : List ℕ) : Type 0 where
  pub named : k.id ≡ id
  pub size : ℕ
  pub counted : answer ≡ Ok (NextAnswer.Sent (record { 0 = size }))
  pub accepted : read_data ends.Ips k.datalink (take size out) ≡ record { verdict = Verdict.Accepted; message = message_of k sequence }
  pub carries : packet_of (take size out) ≡ packet

-- the sequences of its channels have 32 bits, as every state in lent words has them
abbrev pub SequenceWords : State → Type 0
SequenceWords s = (index : ℕ) → index < length s.channels → (channel_at s index).sequence.0 < 2 ^ 32
