-- Numbers of a line laid as words, one after another, and behind what was laid before. Assumes nothing.
use mathlib.Core.Path.{◌≡◌, refl, sym, ap, ◌∙◌}
use mathlib.Core.List.{List, [], ◌∷◌, ◌++◌, append_assoc}
use Prim.Native.Nat.{ℕ, zero, suc, ◌-◌, ◌+◌, ◌≤◌}
use native.Mathlib.Omega.{arith}
use borrow.Rule.Slice.PartMut.{put_mid}
use lib.ListN.{length, get_or, take, drop, length-drop, length-append}
use lib.Seq.{paste, take_at, take-length, take_all, get_or-drop, drop-append-add, drop-drop}
use Rattle.facts.specs.Tables.{tabulate}
use Rattle.facts.proofs.Tables.{length_tabulate}
use Rattle.line_rows.specs.Rows.{over}
use Rattle.session_read.specs.Words.{said_from}

pub said_length : (n : ℕ → ℕ) (from count : ℕ) → length (said_from n from count) ≡ count
unfolding said_from
said_length n from count = length_tabulate count (λ place. n (from + place))

-- ---- a stretch of the numbers is copied
first_are : (l : List ℕ) (count : ℕ) → count ≤ length l → take count l ≡ tabulate count (λ place. get_or l place 0)
unfolding tabulate
first_are l zero h = refl
first_are [] (suc count) h = absurd (omega arith)
first_are (x ∷ l) (suc count) h = ap (λ (xs : List ℕ). x ∷ xs) (first_are l count (omega arith))

pub copied_is : (n words : List ℕ) (to from count : ℕ) {part : List ℕ} → from + count ≤ length n → part ≡ take (from + count - from) (drop from n)
    → put_mid to (to + count - to) words part ≡ paste words to (said_from (λ i. get_or n i 0) from count) count
unfolding said_from
copied_is n words to from count {part} h e =
    let f : ℕ → ℕ = λ place. get_or n (from + place) 0 in
    let left : length (drop from n) ≡ length n - from = length-drop from n in
    let many : from + count - from ≡ count = omega arith in
    let most : to + count - to ≡ count = omega arith in
    let said : take count (drop from n) ≡ tabulate count f =
    first_are (drop from n) count (omega arith) ∙ ap (tabulate count) (λ i place. get_or-drop from n place 0 i) in
    let whole : take count (tabulate count f) ≡ tabulate count f = take_all count (tabulate count f) (omega (arith, length_tabulate count f)) in
    rw (most, e, many, said, whole, drop-drop count to words) (sym (append_assoc (take to words) (tabulate count f) (drop (to + count) words)))

-- ---- what is laid behind what was laid at the start
pub laid_behind : (xs ys words : List ℕ) → paste (over xs words) (length xs) ys (length ys) ≡ over (xs ++ ys) words
laid_behind xs ys words =
    let first = take_at xs (drop (length xs) words) (length xs) refl in
    let behind : drop (length xs + length ys) (xs ++ drop (length xs) words) ≡ drop (length xs + length ys) words =
    drop-append-add xs (drop (length xs) words) (length ys) ∙ drop-drop (length ys) (length xs) words in
    let size : length (xs ++ ys) ≡ length xs + length ys = length-append xs ys in
    rw (first, take-length ys, behind, size)

-- and where the code knows how many they are
pub laid_after : (n : ℕ → ℕ) (xs words : List ℕ) (from count : ℕ) {laid words' : List ℕ} {to : ℕ} → length xs ≡ to → laid ≡ over xs words → words' ≡ paste laid to (said_from n from count) count
    → words' ≡ over (xs ++ said_from n from count) words
laid_after n xs words from count e f g =
    let said : List ℕ = said_from n from count in
    let size : length said ≡ count = said_length n from count in
    g ∙ rw (f, ← e) (ap (λ (i : ℕ). paste (over xs words) (length xs) said i) (sym size) ∙ laid_behind xs said words)
