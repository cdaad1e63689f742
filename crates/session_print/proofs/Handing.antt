-- The answers to a handful, one behind another. Assumes nothing.
use mathlib.Core.Path.{◌≡◌, refl, ap}
use mathlib.Core.List.{List, [], ◌∷◌, ◌++◌}
use Prim.Native.Nat.{ℕ, suc, ◌≤◌}
use lib.ListN.{length}
use Rattle.text.specs.Laying.{last_digits_lem, decimal_text, Lays}
use Rattle.message_words.specs.Saying.{Says}
use Rattle.message_words.specs.Phrases.{table_texts}
use Rattle.message_words.proofs.Saying.{Saying, says_one, says_then, saying_end}
use Rattle.ips_channel_calls.specs.Calls.{answer_of}
use Rattle.session_print.specs.Answers.{OFFERED, another_texts, answers_texts, offers_texts}

-- they are a table whose places aren't said
abbrev pub placed_texts : ℕ → ℕ → List (List ℕ)
placed_texts i number = another_texts number

answers_table : (i : ℕ) (numbers : List ℕ) → table_texts placed_texts i numbers ≡ answers_texts numbers
unfolding table_texts answers_texts
answers_table i [] = refl
answers_table i (number ∷ numbers) = ap (λ (l : List (List ℕ)). another_texts number ++ l) (answers_table (suc i) numbers)

-- behind `offered`
pub says_offers : {out : List ℕ} {at a : ℕ} {out' numbers : List ℕ} {i b : ℕ} {out'' : List ℕ} → Lays out at OFFERED a out' → Saying placed_texts numbers out' a i out'' b → length numbers ≤ i
    → Says out at (offers_texts numbers) b out''
says_offers {numbers = numbers} l k h = says_then (says_one l) (rw (answers_table 0 numbers) at (saying_end placed_texts k h))

-- `offered taken refused 13 0`, and with no packet `offered`
two_answers : offers_texts (0 ∷ 13 ∷ []) ≡ (111 ∷ 102 ∷ 102 ∷ 101 ∷ 114 ∷ 101 ∷ 100 ∷ []) ∷ (32 ∷ []) ∷ (116 ∷ 97 ∷ 107 ∷ 101 ∷ 110 ∷ []) ∷ (32 ∷ []) ∷ (114 ∷ 101 ∷ 102 ∷ 117 ∷ 115 ∷ 101 ∷ 100 ∷ 32 ∷ []) ∷ (49 ∷ 51 ∷ []) ∷ (32 ∷ []) ∷ (48 ∷ []) ∷ []
unfolding answer_of answers_texts last_digits_lem decimal_text
two_answers = refl

no_answer : offers_texts [] ≡ (111 ∷ 102 ∷ 102 ∷ 101 ∷ 114 ∷ 101 ∷ 100 ∷ []) ∷ []
unfolding answers_texts
no_answer = refl
