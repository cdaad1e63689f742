-- Each way out of a call. Assumes nothing.
use Prim.Native.Nat.{ℕ}
use mathlib.Core.Path.{◌≡◌}
use mathlib.Core.List.{List}
use mathlib.Core.Bool.{Bool, true, false, and-false}
use borrow.Author.Tests.{eq-eqb, ne_eqb}
use lib.ListN.{length}
use Rattle.reader.specs.Readings.{Verdict}
use Rattle.writable.specs.Allowed.{control_allowed}
use Rattle.answer_codes.specs.declared.Answer.{Answer}
use Rattle.answer_codes.specs.Codes.{code_of}
use Rattle.lent_messages.specs.Words.{control_spelled, control_of}
use Rattle.message_calls.specs.Calls.{is_end, end_of, is_accepted, verdict_as, taken, Reads, control_may}

-- ---- reading
module _ (end size : ℕ) (words : List ℕ) where
  pub no_end : is_end end ≡ false → taken end size words ≡ false
  unfolding taken
  no_end e = rw e

  pub other_length : (length words ≡ size → ⊥) → taken end size words ≡ false
  unfolding taken
  other_length h = rw (ne_eqb (length words) size h) (and-false (is_end end))

  pub is_taken : is_end end ≡ true → length words ≡ size → taken end size words ≡ true
  unfolding taken
  is_taken e h = rw (e, eq-eqb (length words) size h)

module _ (is_taken : Bool) (verdict : Verdict) (said words : List ℕ) (answer : Answer) (words' : List ℕ) where
  pub reads_other : is_taken ≡ true → is_accepted verdict ≡ false → answer ≡ code_of (verdict_as verdict) → words' ≡ words → Reads is_taken verdict said words answer words'
  reads_other t a e w = record { answers = rw t e; words_are = rw (t, a) w }

-- ---- writing
module _ (end : ℕ) (words : List ℕ) where
  pub control_unspelled : control_spelled words ≡ false → control_may end words ≡ false
  unfolding control_may
  control_unspelled e = rw e (and-false (is_end end))

  pub control_may_lem : is_end end ≡ true → control_spelled words ≡ true → control_may end words ≡ control_allowed (end_of end) (control_of words)
  unfolding control_may
  control_may_lem e f = rw (e, f)
