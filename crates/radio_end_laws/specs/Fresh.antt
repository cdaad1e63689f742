-- What the message says after a start, in literal numbers. Source document 000, section 4.5.2: "After initialization, the Airborne Radio endpoint sends a
-- control-plane CIRI message having a Flow Window option without the Flow Window field for each flow-controlled datalink channel."
use Rattle.std.specs.Prelude.{ℕ, ◌<◌, true, false, ◌≡◌, length, get_or, take, Some, None, Ok}
use Rattle.quantity.specs.declared.count.ByteCount.{ByteCount}
use Rattle.meaning.specs.declared.message.End.TheVariants as ends
use Rattle.meaning.specs.declared.message.Window.{Window}
use Rattle.meaning.specs.declared.message.Control.{Control}
use Rattle.reader.specs.Readings.{Verdict, read_control}
use Rattle.radio_end_state.specs.declared.answer.Answer.{Answer}
use Rattle.radio_end_state.specs.State.{Configuration, no_setting, fresh_state}
use Rattle.radio_end_state.specs.Calls.{After}
use Rattle.radio_end_laws.specs.Plain.{status_of, sequence_of, window_of}

-- Datalink Identifier; Channel Status 0 of every channel; Flow Window without the field of every flow-controlled one; nothing else
pub record TellsFresh (k : Configuration) (m : Control) : Type 0 where
  pub datalink : m.datalink ≡ Some k.datalink
  pub instance : m.instance ≡ None
  pub context : m.context ≡ None
  pub status : (index : ℕ) → index < length k.settings → status_of m (get_or k.settings index no_setting).id ≡ Some 0
  pub window : (index : ℕ) → index < length k.settings → (get_or k.settings index no_setting).controlled ≡ true → window_of m (get_or k.settings index no_setting).id ≡ Some Window.Empty
  pub plain : (index : ℕ) → index < length k.settings → (get_or k.settings index no_setting).controlled ≡ false → window_of m (get_or k.settings index no_setting).id ≡ None
  pub no_other : (id : ℕ) → ((index : ℕ) → index < length k.settings → (get_or k.settings index no_setting).id ≡ id → ⊥)
      → (status_of m id ≡ None) × (window_of m id ≡ None)
  pub no_sequence_lem : (id : ℕ) → sequence_of m id ≡ None

-- a call that answers with it: so many bytes of the output read back as that message, and the state is as it was
pub record FreshTold (k : Configuration) (r : After) : Type 0 where
  pub bytes : ByteCount
  pub message : Control
  pub answered : r.answer ≡ Ok (Answer.Answered bytes)
  pub kept : r.state ≡ fresh_state k
  pub reads : read_control ends.Radio k.datalink (take bytes.0 r.output) ≡ record { verdict = Verdict.Accepted; message = message }
  pub tells : TellsFresh k message
