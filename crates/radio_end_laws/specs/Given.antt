-- "Given exactly when": each answer of a call of the radio's end with all that holds when it is given, in the order of the tests, and what the call leaves.
use Rattle.meaning.specs.declared.message.Plane.{Plane}
use Rattle.std.specs.Prelude.{ℕ, ◌<◌, true, List, ◌↔◌, ◌⊎◌, ◌≡◌, length, Result, Ok, Err}
use Rattle.quantity.specs.declared.count.ByteCount.{ByteCount}
use Rattle.quantity.specs.declared.count.DatalinkId.{DatalinkId}
use Rattle.quantity.specs.declared.refusal.Refusal.{Refusal}
use Rattle.wire.specs.Options.{over}
use Rattle.meaning.specs.declared.message.End.TheVariants as ends
use Rattle.meaning.specs.declared.message.Control.{Control}
use Rattle.meaning.specs.declared.message.Data.{Data}
use Rattle.reader.specs.Readings.{Verdict, read_control, read_data, plane_of}
use Rattle.radio_end_state.specs.declared.answer.Answer.{Answer}
use Rattle.radio_end_state.specs.State.{State}
use Rattle.radio_end_state.specs.Message.{message_bytes}
use Rattle.radio_end_state.specs.Limits.{state_fits}
use Rattle.radio_end_state.specs.Calls.{After}
use Rattle.radio_end_state.specs.Each.{Keeps}

-- place: "0 for all others"
abbrev pub numbered : ℕ → Result Answer Refusal
numbered number = Err (record { number = number; place = 0 })

-- a call leaves a state within the limits, of the same Datalink ID; a message that it writes is that of the state that it leaves, all of it
pub record Leaves (s : State) (out : List ℕ) (r : After) : Type 0 where
  pub within : state_fits r.state ≡ true
  pub datalink : r.state.datalink ≡ s.datalink
  pub message : (n : ByteCount) → (r.answer ≡ Ok (Answer.Answered n)) ⊎ (r.answer ≡ Ok (Answer.Unasked n))
      → (n.0 ≡ length (message_bytes r.state)) × (r.output ≡ over (message_bytes r.state) out)

-- 18: "there is a message to write, and the output is shorter than it or it is over 65,507 bytes"
abbrev pub NoRoom : (message out : List ℕ) → Type 0
NoRoom message out = (length out < length message) ⊎ (65507 < length message)

-- each answer with its facts: 19 unless the state is within the limits, 12 unless a channel is named that is there, 20 unless the value can be written, 18 if there is
-- a message to write and no room
pub data Given (Fits Named Writable Told : Type 0) (say : ByteCount → Result Answer Refusal) (message out : List ℕ) : Result Answer Refusal → Type 0 where
  given_19 : (Fits → ⊥) → Given Fits Named Writable Told say message out (numbered 19)
  given_12 : Fits → (Named → ⊥) → Given Fits Named Writable Told say message out (numbered 12)
  given_20 : Fits → Named → (Writable → ⊥) → Given Fits Named Writable Told say message out (numbered 20)
  given_18 : Fits → Named → Writable → Told → NoRoom message out → Given Fits Named Writable Told say message out (numbered 18)
  given_message : Fits → Named → Writable → Told → (NoRoom message out → ⊥) → Given Fits Named Writable Told say message out (say (record { 0 = length message }))
  given_quiet : Fits → Named → Writable → (Told → ⊥) → Given Fits Named Writable Told say message out (Ok Answer.Quiet)

-- A CALL THAT MAKES ONE STATE OF ANOTHER, its answer, its state and every byte of the output
pub record Exactly (Fits Named Writable Told : Type 0) (say : ByteCount → Result Answer Refusal) (before after : State) (out : List ℕ) (r : After) : Type 0 where
  pub given : (a : Result Answer Refusal) → (r.answer ≡ a) ↔ Given Fits Named Writable Told say (message_bytes after) out a
  pub refused_leaves : Keeps before out r
  pub message_leaves : (n : ByteCount) → r.answer ≡ say n → (r.state ≡ after) × (r.output ≡ over (message_bytes after) out)
  pub quiet_leaves : r.answer ≡ Ok Answer.Quiet → (r.state ≡ after) × (r.output ≡ out)

-- ---- "1 to 11 as for the reader": what reading the datagram refuses it by, number and place
pub data ReadingRefuses (datalink : DatalinkId) (datagram : List ℕ) (refusal : Refusal) : Type 0 where
  by_header : plane_of datagram ≡ Err refusal → ReadingRefuses datalink datagram refusal
  by_control : plane_of datagram ≡ Ok Plane.Control → (read_control ends.Ips datalink datagram).verdict ≡ Verdict.Refused refusal → ReadingRefuses datalink datagram refusal
  by_data : plane_of datagram ≡ Ok Plane.Data → (read_data ends.Ips datalink datagram).verdict ≡ Verdict.Refused refusal → ReadingRefuses datalink datagram refusal

-- an accepted message of either plane
pub record ControlRead (datalink : DatalinkId) (datagram : List ℕ) (m : Control) : Type 0 where
  pub plane : plane_of datagram ≡ Ok Plane.Control
  pub reading : read_control ends.Ips datalink datagram ≡ record { verdict = Verdict.Accepted; message = m }

pub record DataRead (datalink : DatalinkId) (datagram : List ℕ) (m : Data) : Type 0 where
  pub plane : plane_of datagram ≡ Ok Plane.Data
  pub reading : read_data ends.Ips datalink datagram ≡ record { verdict = Verdict.Accepted; message = m }

-- one of the three
pub data Reading (datalink : DatalinkId) (datagram : List ℕ) : Type 0 where
  unread : (refusal : Refusal) → ReadingRefuses datalink datagram refusal → Reading datalink datagram
  control_read_lem : (m : Control) → ControlRead datalink datagram m → Reading datalink datagram
  data_read_lem : (m : Data) → DataRead datalink datagram m → Reading datalink datagram
