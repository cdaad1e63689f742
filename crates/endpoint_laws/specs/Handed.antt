-- "The message has, in the writer's order, Datalink Identifier, Flow Sequence if a window is in force, Channel Identifier, Packet Data.": what a reader finds, field by
-- field, in as many first bytes of the output as Next answered.
use Rattle.quantity.specs.declared.count.FlowSequence.{FlowSequence}
use Rattle.std.specs.Prelude.{ℕ, ◌+◌, ◌%◌, List, ◌∷◌, ◌≡◌, length, take, drop, Option, Some, None}
use Rattle.quantity.specs.declared.count.ByteCount.{ByteCount}
use Rattle.quantity.specs.declared.count.FlowWindow.{FlowWindow}
use Rattle.meaning.specs.declared.message.End.TheVariants as ends
use Rattle.reader.specs.Readings.{Verdict, DataReading, read_data, packet_of}
use Rattle.store.specs.Packets.{Packet}
use Rattle.flow.specs.declared.Flow.{Flow}
use Rattle.ips_channel.specs.declared.state.Channel.{Channel}
use Rattle.ips_state.specs.Memory.{World, channel_in}
use Rattle.endpoint_laws.specs.Given.{Configured, not_due_in}

-- "Sending under a window adds n to the sequence modulo 2^32, and the message carries the sum. A free channel's sequence stands still."
pub data SequenceRead (c : Channel) (id n : ℕ) : Option (ℕ × FlowSequence) → Type 0 where
  read_none : c.flow ≡ Flow.Free → SequenceRead c id n None
  read_sum : {window : FlowWindow} → c.flow ≡ Flow.InForce window → SequenceRead c id n (Some (id, record { 0 = (c.sequence.0 + n) % 4294967296 }))

-- a reader of the IPS end's messages, configured with the state's Datalink ID
abbrev pub reading_in : World → ByteCount → List ℕ → DataReading
reading_in w count out = read_data ends.Ips w.state.datalink.id (take count.0 out)

-- "a data message with the first waiting packet", of those that are not due; "bytes behind the message stay"
pub record HandedOver (w : World) (id time : ℕ) (count : ByteCount) (out out' : List ℕ) : Type 0 where
  pub index : ℕ
  pub named : Configured w id index
  pub first : Packet
  pub behind : List Packet
  pub waits : not_due_in w index time ≡ first ∷ behind
  pub accepted : (reading_in w count out').verdict ≡ Verdict.Accepted
  pub datalink : (reading_in w count out').message.datalink ≡ Some w.state.datalink.id
  pub sequence : SequenceRead (channel_in w index) id (length first.bytes) (reading_in w count out').message.sequence
  pub channel : (reading_in w count out').message.channel ≡ Some id
  pub no_expiration_lem : (reading_in w count out').message.expiration ≡ None
  pub packet : packet_of (take count.0 out') ≡ first.bytes
  pub rest : drop count.0 out' ≡ drop count.0 out
