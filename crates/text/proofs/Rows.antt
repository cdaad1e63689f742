-- Words and what they stand for, in literal bytes, each computed. Assumes nothing.
use Rattle.std.specs.Prelude.{Option, Some, None}
use mathlib.Core.List.{List, [], ◌∷◌}
use mathlib.Core.Path.{◌≡◌, refl}
use Prim.Native.Nat.{ℕ}
use Rattle.text.specs.Laying.{laid}
use Rattle.text.specs.Numbers.{digit_of, step_of, follow_of, by_size, plain_of, parse_of}
use Rattle.text.specs.Strings.{pairs_of, readable_of, hexed_of, unhexed}

-- every word stands for what is said
abbrev pub Stands : {A : Type 0} → (List ℕ → A) → List (List ℕ × A) → Type 0
Stands f [] = Unit {0}
Stands f (row ∷ rows) = (f row.0 ≡ row.1) × Stands f rows

-- decimal numbers up to 300
abbrev pub numbers : List (List ℕ × Option ℕ)
numbers =
    -- no digit, a needless zero, the bound and one above it, and what is no decimal digit
    ([], None)
    ∷ (48 ∷ [], Some 0)
    ∷ (48 ∷ 48 ∷ [], None)
    ∷ (48 ∷ 55 ∷ [], None)
    ∷ (51 ∷ 48 ∷ 48 ∷ [], Some 300)
    ∷ (51 ∷ 48 ∷ 49 ∷ [], None)
    ∷ (43 ∷ 49 ∷ [], None)
    ∷ (49 ∷ 97 ∷ [], None)
    ∷ []

pub numbers_stand : Stands (parse_of 300) numbers
unfolding digit_of step_of follow_of by_size plain_of parse_of
numbers_stand = (refl, (refl, (refl, (refl, (refl, (refl, (refl, (refl, tt))))))))

-- byte strings for an output of four bytes
abbrev pub strings : List (List ℕ × Option ℕ)
strings =
    -- no word; `-`, the empty string; one digit
    ([], None)
    ∷ (45 ∷ [], Some 0)
    ∷ (55 ∷ [], None)
    -- pairs, up to what has room; an odd number of digits; a capital letter; a letter past `f`; `-` beside digits
    ∷ (48 ∷ 97 ∷ [], Some 1)
    ∷ (48 ∷ 97 ∷ 102 ∷ 102 ∷ 55 ∷ 48 ∷ 48 ∷ 51 ∷ [], Some 4)
    ∷ (48 ∷ 97 ∷ 102 ∷ 102 ∷ 55 ∷ 48 ∷ 48 ∷ 51 ∷ 49 ∷ 49 ∷ [], None)
    ∷ (48 ∷ 97 ∷ 102 ∷ [], None)
    ∷ (48 ∷ 65 ∷ [], None)
    ∷ (48 ∷ 103 ∷ [], None)
    ∷ (48 ∷ 97 ∷ 45 ∷ [], None)
    ∷ (48 ∷ 97 ∷ 45 ∷ 45 ∷ [], None)
    ∷ []

pub strings_stand : Stands (hexed_of 4) strings
unfolding digit_of step_of follow_of by_size pairs_of readable_of hexed_of
strings_stand = (refl, (refl, (refl, (refl, (refl, (refl, (refl, (refl, (refl, (refl, (refl, tt)))))))))))

-- the higher digit first, and the bytes behind the string stay; a word that stands for none leaves all
pub string_laid : (unhexed (9 ∷ 9 ∷ 9 ∷ []) (48 ∷ 97 ∷ 102 ∷ 102 ∷ []) ≡ 10 ∷ 255 ∷ 9 ∷ []) × (unhexed (9 ∷ 9 ∷ 9 ∷ []) (48 ∷ 97 ∷ 102 ∷ []) ≡ 9 ∷ 9 ∷ 9 ∷ [])
unfolding laid digit_of step_of follow_of by_size pairs_of readable_of unhexed
string_laid = (refl, refl)
