-- Lines and their answers in literal bytes, each computed. Assumes nothing.
use mathlib.Core.List.{List, [], ◌∷◌}
use mathlib.Core.Path.{◌≡◌, refl}
use Prim.Native.Nat.{ℕ}
use Rattle.octets.specs.Bytes.{index_of, index_after}
use Rattle.quantity.specs.Distance.{distance_of}
use Rattle.text.specs.Laying.{last_digits_lem, decimal_text, signed_text}
use Rattle.text.specs.Numbers.{digit_of, step_of, follow_of, by_size, plain_of, parse_of}
use Rattle.text.specs.Words.{head_of, tail_of}
use Rattle.distance_line.specs.Answer.{pair_of, read_of, spaced, row_of, answer_of}

-- a line, and its answer
abbrev pub table : List (List ℕ × List ℕ)
table =
    -- the example of document 01
    (52 ∷ 50 ∷ 57 ∷ 52 ∷ 57 ∷ 54 ∷ 55 ∷ 48 ∷ 48 ∷ 48 ∷ 32 ∷ 53 ∷ 48 ∷ 48 ∷ [], 52 ∷ 50 ∷ 57 ∷ 52 ∷ 57 ∷ 54 ∷ 55 ∷ 48 ∷ 48 ∷ 48 ∷ 32 ∷ 53 ∷ 48 ∷ 48 ∷ 32 ∷ 55 ∷ 57 ∷ 54 ∷ [])
    ∷ (49 ∷ 48 ∷ 48 ∷ 32 ∷ 57 ∷ 57 ∷ [], 49 ∷ 48 ∷ 48 ∷ 32 ∷ 57 ∷ 57 ∷ 32 ∷ 45 ∷ 49 ∷ [])
    ∷ (48 ∷ 32 ∷ 50 ∷ 49 ∷ 52 ∷ 55 ∷ 52 ∷ 56 ∷ 51 ∷ 54 ∷ 52 ∷ 56 ∷ [], 48 ∷ 32 ∷ 50 ∷ 49 ∷ 52 ∷ 55 ∷ 52 ∷ 56 ∷ 51 ∷ 54 ∷ 52 ∷ 56 ∷ 32 ∷ 45 ∷ 50 ∷ 49 ∷ 52 ∷ 55 ∷ 52 ∷ 56 ∷ 51 ∷ 54 ∷ 52 ∷ 56 ∷ [])
    ∷ (55 ∷ [], 98 ∷ 97 ∷ 100 ∷ [])
    -- the largest number, and one above it; a needless zero
    ∷ (52 ∷ 50 ∷ 57 ∷ 52 ∷ 57 ∷ 54 ∷ 55 ∷ 50 ∷ 57 ∷ 53 ∷ 32 ∷ 48 ∷ [], 52 ∷ 50 ∷ 57 ∷ 52 ∷ 57 ∷ 54 ∷ 55 ∷ 50 ∷ 57 ∷ 53 ∷ 32 ∷ 48 ∷ 32 ∷ 49 ∷ [])
    ∷ (52 ∷ 50 ∷ 57 ∷ 52 ∷ 57 ∷ 54 ∷ 55 ∷ 50 ∷ 57 ∷ 54 ∷ 32 ∷ 48 ∷ [], 98 ∷ 97 ∷ 100 ∷ [])
    ∷ (48 ∷ 32 ∷ 52 ∷ 50 ∷ 57 ∷ 52 ∷ 57 ∷ 54 ∷ 55 ∷ 50 ∷ 57 ∷ 54 ∷ [], 98 ∷ 97 ∷ 100 ∷ [])
    ∷ (48 ∷ 48 ∷ 32 ∷ 49 ∷ [], 98 ∷ 97 ∷ 100 ∷ [])
    ∷ (49 ∷ 32 ∷ 48 ∷ 50 ∷ [], 98 ∷ 97 ∷ 100 ∷ [])
    -- an empty line; two spaces, one before and one behind; a third word; no digits
    ∷ ([], 98 ∷ 97 ∷ 100 ∷ [])
    ∷ (49 ∷ 32 ∷ 32 ∷ 50 ∷ [], 98 ∷ 97 ∷ 100 ∷ [])
    ∷ (32 ∷ 49 ∷ 32 ∷ 50 ∷ [], 98 ∷ 97 ∷ 100 ∷ [])
    ∷ (49 ∷ 32 ∷ 50 ∷ 32 ∷ [], 98 ∷ 97 ∷ 100 ∷ [])
    ∷ (49 ∷ 32 ∷ 50 ∷ 32 ∷ 51 ∷ [], 98 ∷ 97 ∷ 100 ∷ [])
    ∷ (49 ∷ 32 ∷ 97 ∷ [], 98 ∷ 97 ∷ 100 ∷ [])
    ∷ []

abbrev pub Answers : List (List ℕ × List ℕ) → Type 0
Answers [] = Unit {0}
Answers (row ∷ rows) = (answer_of row.0 ≡ row.1) × Answers rows

pub table_answers : Answers table
unfolding index_of index_after distance_of last_digits_lem decimal_text signed_text digit_of step_of follow_of by_size plain_of parse_of head_of tail_of pair_of read_of spaced row_of answer_of
table_answers = (refl, (refl, (refl, (refl, (refl, (refl, (refl, (refl, (refl, (refl, (refl, (refl, (refl, (refl, (refl, tt)))))))))))))))
