-- Writing and then reading, over the outcomes of writers: an allowed meaning is written where there is room, and what is written is read back
-- as the same meaning. Assumes nothing.
use Rattle.std.specs.Prelude.{Some, Result, Ok}
use Rattle.quantity.specs.declared.refusal.Refusal.{Refusal}
use Prim.Native.Nat.{ℕ, ◌≤◌, ◌<◌}
use mathlib.Core.Path.{◌≡◌, refl, ap, ◌∙◌}
use mathlib.Core.List.{List}
use mathlib.Core.Bool.{Bool, true, false}
use mathlib.Core.Logic.{◌↔◌}
use native.Mathlib.Omega.{arith}
use borrow.Author.Tests.{ltb-true, ltb-false}
use lib.ListN.{length, take, drop}
use lib.Seq.{take_at}
use lib.Dec.{ltb}
use Rattle.quantity.specs.declared.count.ByteCount.{ByteCount}
use Rattle.quantity.specs.declared.count.DatalinkId.{DatalinkId}
use Rattle.quantity.specs.Refusals.{NO-ROOM}
use Rattle.wire.specs.Options.{over}
use Rattle.meaning.specs.declared.message.End.{End}
use Rattle.meaning.specs.declared.message.Control.{Control}
use Rattle.meaning.specs.declared.message.Data.{Data}
use Rattle.read_rules.specs.declared.answer.Verdict.{Verdict}
use Rattle.read_control.specs.Message.{control_accepted}
use Rattle.reader.specs.Readings.{read_control, read_data, packet_of}
use Rattle.writable.specs.Allowed.{control_allowed, data_allowed}
use Rattle.writer.specs.Written.{control_written, data_written, Outcome}
use Rattle.roundtrip.specs.Values.{ControlValue, DataValue}
use Rattle.roundtrip.specs.Answers.{Room, refused_by, Sent, Exact}
use Rattle.roundtrip.proofs.Answers.{exact}
use Rattle.roundtrip.proofs.Control.{control_short, control_round}
use Rattle.roundtrip.proofs.Data.{data_round, packet_round}

-- the bytes that the answer counts are the message
pub counted : {allowed : Bool} {message out : List ℕ} {count : ByteCount} {out' : List ℕ} → Sent allowed message out count out' → take count.0 out' ≡ message
counted {message} {out} s = rw (s.count_is, s.bytes_are) (take_at message (drop (length message) out) (length message) refl)

module _ (end : End) (m : Control) (value : ControlValue m) (out : List ℕ) (answer : Result ByteCount Refusal) (out' : List ℕ)
    (o : Outcome (control_allowed end m) (control_written m) out answer out') where
  control_outcome : Exact (control_allowed end m) (control_written m) out answer out'
  control_outcome = exact (control_written m) out answer out' (control_allowed end m) o

  control_room : control_allowed end m ≡ true → length (control_written m) ≤ length out → Room (control_written m) out
  control_room e h = record { in_output = h; in_datagram = control_short end m value e }

  pub control_written_lem : control_allowed end m ≡ true → length (control_written m) ≤ length out
      → (answer ≡ Ok (record { 0 = length (control_written m) })) × (out' ≡ over (control_written m) out)
  control_written_lem e h = control_outcome.written e (control_room e h)

  -- no control message is too long for a datagram
  pub control_no_room : (answer ≡ refused_by NO-ROOM) ↔ ((control_allowed end m ≡ true) × (length out < length (control_written m)))
  control_no_room = (
    λ e. there (control_outcome.no_room.0 e).0 (control_outcome.no_room.0 e).1 (ltb (length out) (length (control_written m))) refl,
    λ e. control_outcome.no_room.1 (e.0, λ r. omega (arith, e.1, r.in_output)),
  )
    where
      there : control_allowed end m ≡ true → (Room (control_written m) out → ⊥) → (b : Bool) → ltb (length out) (length (control_written m)) ≡ b
          → (control_allowed end m ≡ true) × (length out < length (control_written m))
      there e n true f = (e, ltb-true (length out) (length (control_written m)) f)
      there e n false f = absurd (n (control_room e (ltb-false (length out) (length (control_written m)) f)))

  pub control_returned : (id : DatalinkId) (count : ByteCount) → m.datalink ≡ Some id → answer ≡ Ok count
      → read_control end id (take count.0 out') ≡ control_accepted m
  control_returned id count d e = let s = control_outcome.sent count e in ap (read_control end id) (counted s) ∙ control_round end id m value s.is_allowed d

module _ (end : End) (m : Data) (packet : List ℕ) (out : List ℕ) (answer : Result ByteCount Refusal) (out' : List ℕ)
    (o : Outcome (data_allowed end m (length packet)) (data_written m packet) out answer out') where
  data_outcome : Exact (data_allowed end m (length packet)) (data_written m packet) out answer out'
  data_outcome = exact (data_written m packet) out answer out' (data_allowed end m (length packet)) o

  pub data_written_lem : data_allowed end m (length packet) ≡ true → Room (data_written m packet) out
      → (answer ≡ Ok (record { 0 = length (data_written m packet) })) × (out' ≡ over (data_written m packet) out)
  data_written_lem e r = data_outcome.written e r

  pub data_returned : (id : DatalinkId) (count : ByteCount) → DataValue m → m.datalink ≡ Some id → answer ≡ Ok count
      → (read_data end id (take count.0 out') ≡ record { verdict = Verdict.Accepted; message = m }) × (packet_of (take count.0 out') ≡ packet)
  data_returned id count value d e =
      let s = data_outcome.sent count e in (
        ap (read_data end id) (counted s) ∙ data_round end id m packet value s.is_allowed d s.room.in_datagram,
        ap packet_of (counted s) ∙ packet_round end m packet value s.is_allowed,
      )
