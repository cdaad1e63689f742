-- What a Channel ID hears and has queued, by what the reader of the IPS end reads, and in literal numbers. Assumes nothing.
use Rattle.meaning.specs.declared.message.Plane.{Plane}
use Rattle.std.specs.Prelude.{Some, None, Ok}
use Prim.Native.Nat.{ℕ, ◌+◌, min}
use mathlib.Core.Bool.{true}
use mathlib.Core.List.{List, [], ◌∷◌}
use mathlib.Core.Path.{◌≡◌, refl, ap}
use borrow.Author.Tests.{eq-eqb, ne_eqb}
use lib.ListN.{length, get_or}
use Rattle.quantity.specs.declared.count.ByteCount.{ByteCount}
use Rattle.quantity.specs.declared.count.FlowSequence.{FlowSequence}
use Rattle.meaning.specs.declared.message.End.TheVariants as ends
use Rattle.reader.specs.Readings.{Verdict, read_control, read_data, plane_of, packet_of}
use Rattle.radio_flow.specs.Granting.{queued_on}
use Rattle.radio_end_state.specs.State.{State}
use Rattle.radio_end_state.specs.Calls.{sequence_in, channel_named}
use Rattle.radio_end_run.specs.Run.{hear, status, queued, accepted_by, received_in, heard_by, queued_by, status_by}

-- ---- a control message that is not refused
module _ (s : State) (datagram out : List ℕ) (accepted : accepted_by (hear datagram out) s ≡ true) where
  module _ (plane : plane_of datagram ≡ Ok Plane.Control) (read : (read_control ends.Ips s.datalink datagram).verdict ≡ Verdict.Accepted) where
    pub control_states : (id : ℕ) (sequence : FlowSequence) → (get_or (read_control ends.Ips s.datalink datagram).message.sequences id None) ≡ Some sequence
        → heard_by (hear datagram out) s id ≡ sequence ∷ []
    unfolding heard_by received_in sequence_in
    control_states id sequence e = rw (accepted, plane, read, e)

    pub control_omits : (id : ℕ) → (get_or (read_control ends.Ips s.datalink datagram).message.sequences id None) ≡ None → heard_by (hear datagram out) s id ≡ []
    unfolding heard_by received_in sequence_in
    control_omits id e = rw (accepted, plane, read, e)

    pub control_queues : (id : ℕ) (bytes : ByteCount) → queued_by (hear datagram out) s id bytes ≡ bytes
    unfolding queued_by received_in
    control_queues id bytes = rw (accepted, plane, read)

  -- ---- a data message that is not refused: "a data message without one names channel 0"
  module _ (plane : plane_of datagram ≡ Ok Plane.Data) (read : (read_data ends.Ips s.datalink datagram).verdict ≡ Verdict.Accepted) where
    of_channel_lem : (id : ℕ) → channel_named (read_data ends.Ips s.datalink datagram).message.channel ≡ id → (own : ℕ) (sequence : FlowSequence)
        → (read_data ends.Ips s.datalink datagram).message.sequence ≡ Some (own, sequence) → heard_by (hear datagram out) s id ≡ sequence ∷ []
    unfolding heard_by received_in
    of_channel_lem id e own sequence f = rw (accepted, plane, read, eq-eqb _ _ e, f)

    pub data_states : (id own : ℕ) (sequence : FlowSequence) → (read_data ends.Ips s.datalink datagram).message.channel ≡ Some id
        → (read_data ends.Ips s.datalink datagram).message.sequence ≡ Some (own, sequence) → heard_by (hear datagram out) s id ≡ sequence ∷ []
    data_states id own sequence e f = of_channel_lem id (ap channel_named e) own sequence f

    packet_on_lem : (id : ℕ) → channel_named (read_data ends.Ips s.datalink datagram).message.channel ≡ id → (bytes : ByteCount)
        → (queued_by (hear datagram out) s id bytes).0 ≡ min 18446744073709551615 (bytes.0 + length (packet_of datagram))
    unfolding queued_by received_in queued_on
    packet_on_lem id e bytes = rw (accepted, plane, read, eq-eqb _ _ e)

    pub data_queues : (id : ℕ) → (read_data ends.Ips s.datalink datagram).message.channel ≡ Some id → (bytes : ByteCount)
        → (queued_by (hear datagram out) s id bytes).0 ≡ min 18446744073709551615 (bytes.0 + length (packet_of datagram))
    data_queues id e = packet_on_lem id (ap channel_named e)

    pub data_queues_primary : (read_data ends.Ips s.datalink datagram).message.channel ≡ None → (bytes : ByteCount)
        → (queued_by (hear datagram out) s 0 bytes).0 ≡ min 18446744073709551615 (bytes.0 + length (packet_of datagram))
    data_queues_primary e = packet_on_lem 0 (ap channel_named e)

    -- every other channel hears nothing of it and queues nothing
    pub data_elsewhere : (id : ℕ) → (channel_named (read_data ends.Ips s.datalink datagram).message.channel ≡ id → ⊥) → (bytes : ByteCount)
        → (heard_by (hear datagram out) s id ≡ []) × (queued_by (hear datagram out) s id bytes ≡ bytes)
    unfolding heard_by queued_by received_in
    data_elsewhere id apart bytes = (rw (accepted, plane, read, ne_eqb _ _ apart), rw (accepted, plane, read, ne_eqb _ _ apart))

-- ---- the radio's own side
module _ (s : State) (id : ℕ) (out : List ℕ) where
  pub queued_sets : (number bytes : ByteCount) → accepted_by (queued id number out) s ≡ true → queued_by (queued id number out) s id bytes ≡ number
  unfolding queued_by
  queued_sets number bytes e = rw (e, eq-eqb id id refl)

  pub status_sets : (value before : ℕ) → accepted_by (status id value out) s ≡ true → status_by (status id value out) s id before ≡ value
  unfolding status_by
  status_sets value before e = rw (e, eq-eqb id id refl)
