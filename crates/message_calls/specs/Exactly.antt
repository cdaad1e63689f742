-- READING AND WRITING, each answer exactly when, in literal numbers and plain facts, with every lent word and byte.
use Rattle.std.specs.Prelude.{ℕ, ◌+◌, ◌≤◌, ◌<◌, ◌≡◌, List, ◌⊎◌, Bool, true, false, length}
use Rattle.wire.specs.Options.{over}
use Rattle.reader.specs.Readings.{Verdict}
use Rattle.answer_codes.specs.declared.Answer.{Answer}

abbrev pub numbers : (kind value : ℕ) → Answer
numbers kind value = record { kind = kind; value = value }

-- reading into words of a size: 256 and 19, 8 for an accepted message, 10 for one of the other plane, 256 and the reader's number. Whatever is not accepted leaves
-- every word
pub record ReadExactly (end size : ℕ) (verdict : Verdict) (said words : List ℕ) (answer : Answer) (words' : List ℕ) : Type 0 where
  pub no_end : 1 < end → (answer ≡ numbers 275 0) × (words' ≡ words)
  pub other_size : (length words ≡ size → ⊥) → (answer ≡ numbers 275 0) × (words' ≡ words)
  pub accepted : end ≤ 1 → length words ≡ size → verdict ≡ Verdict.Accepted → (answer ≡ numbers 8 0) × (words' ≡ said)
  pub other_plane : end ≤ 1 → length words ≡ size → verdict ≡ Verdict.OtherPlane → (answer ≡ numbers 10 0) × (words' ≡ words)
  pub refused : end ≤ 1 → length words ≡ size → (number place : ℕ) → verdict ≡ Verdict.Refused (record { number = number; place = place })
      → (answer ≡ numbers (256 + number) place) × (words' ≡ words)
  pub keeps : (answer.kind ≡ 8 → ⊥) → words' ≡ words

-- writing: 256 and 20, 256 and 18, or 11 and the length. Whatever is not written leaves every byte of the output
pub record WriteExactly (end : ℕ) (spelled allowed : Bool) (message out : List ℕ) (answer : Answer) (out' : List ℕ) : Type 0 where
  pub no_end : 1 < end → (answer ≡ numbers 276 0) × (out' ≡ out)
  pub unspelled : spelled ≡ false → (answer ≡ numbers 276 0) × (out' ≡ out)
  pub unwritable : allowed ≡ false → (answer ≡ numbers 276 0) × (out' ≡ out)
  pub no_room : end ≤ 1 → spelled ≡ true → allowed ≡ true → (length out < length message) ⊎ (65507 < length message) → (answer ≡ numbers 274 0) × (out' ≡ out)
  pub wrote : end ≤ 1 → spelled ≡ true → allowed ≡ true → length message ≤ length out → length message ≤ 65507
      → (answer ≡ numbers 11 (length message)) × (out' ≡ over message out)
  pub keeps : (answer.kind ≡ 11 → ⊥) → out' ≡ out
