-- Each part of a message stands before what follows, and has the length that its size says. Assumes nothing.
use Rattle.std.specs.Prelude.{Option, Some, None}
use Rattle.quantity.specs.declared.count.DatalinkId.{DatalinkId}
use Rattle.quantity.specs.declared.count.LinkInstanceId.{LinkInstanceId}
use Rattle.quantity.specs.declared.count.FlowSequence.{FlowSequence}
use Rattle.meaning.specs.declared.message.ContextBytes.{ContextBytes}
use Prim.Native.Nat.{ℕ, suc, ◌+◌}
use mathlib.Core.Path.{◌≡◌, refl, ap}
use mathlib.Core.List.{List, ◌∷◌}
use lib.ListN.{length}
use Rattle.wire.specs.Numbers.{bytes_of}
use Rattle.wire.specs.Options.{option}
use Rattle.wire.proofs.Numbers.{length_bytes}
use Rattle.meaning.specs.Kinds.{PACKET-DATA}
use Rattle.meaning.specs.declared.message.Window.{Window}
use Rattle.write_option.specs.Parts.{datalink_then, instance_then, context_then, status_then, sequence_then, window_then, counted_then, channel_then, expiration_then}
use Rattle.write_option.specs.Sizes.{datalink_size, instance_size, context_size, status_size, sequence_size, window_size, counted_size, channel_size, expiration_size}
use Rattle.write_option.proofs.Laying.{Part, part_nothing, part_option}

-- a Channel ID and a number of 32 bits behind it
flow_length : (channel number : ℕ) → length (channel ∷ bytes_of 4 number) ≡ 5
flow_length channel number = ap suc (length_bytes 4 number)

pub datalink_part_lem : (datalink : Option DatalinkId) → Part (datalink_then datalink) (datalink_size datalink)
datalink_part_lem None = part_nothing
datalink_part_lem (Some d) = part_option _ _ _ refl

pub instance_part_lem : (instance : Option (LinkInstanceId × ℕ)) → Part (instance_then instance) (instance_size instance)
instance_part_lem None = part_nothing
instance_part_lem (Some (v, n)) = part_option _ _ _ (length_bytes n v.0)

pub context_part_lem : (context : Option (ContextBytes × ℕ)) → Part (context_then context) (context_size context)
context_part_lem None = part_nothing
context_part_lem (Some (b, n)) = part_option _ _ _ (length_bytes n b.0)

pub status_part_lem : (channel : ℕ) (status : Option ℕ) → Part (status_then channel status) (status_size status)
status_part_lem channel None = part_nothing
status_part_lem channel (Some s) = part_option _ _ _ refl

pub sequence_part_lem : (channel : ℕ) (sequence : Option FlowSequence) → Part (sequence_then channel sequence) (sequence_size sequence)
sequence_part_lem channel None = part_nothing
sequence_part_lem channel (Some s) = part_option _ _ _ (flow_length channel s.0)

pub window_part_lem : (channel : ℕ) (window : Option Window) → Part (window_then channel window) (window_size window)
window_part_lem channel None = part_nothing
window_part_lem channel (Some Window.Empty) = part_option _ _ _ refl
window_part_lem channel (Some (Window.Given w)) = part_option _ _ _ (flow_length channel w.0)

pub counted_part_lem : (counted : Option (ℕ × FlowSequence)) → Part (counted_then counted) (counted_size counted)
counted_part_lem None = part_nothing
counted_part_lem (Some (n, s)) = part_option _ _ _ (flow_length n s.0)

pub channel_part_lem : (channel : Option ℕ) → Part (channel_then channel) (channel_size channel)
channel_part_lem None = part_nothing
channel_part_lem (Some k) = part_option _ _ _ refl

pub expiration_part_lem : (expiration : Option ℕ) → Part (expiration_then expiration) (expiration_size expiration)
expiration_part_lem None = part_nothing
expiration_part_lem (Some t) = part_option _ _ _ (length_bytes 4 t)

pub packet_part : (packet : List ℕ) → Part (option PACKET-DATA packet) (3 + length packet)
packet_part packet = part_option _ _ _ refl
