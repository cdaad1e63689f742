-- Amounts added one after another. Assumes nothing.
use Rattle.meaning.specs.declared.message.Window.{Window}
use Rattle.std.specs.Prelude.{None, Option}
use mathlib.Core.Path.{◌≡◌, refl, sym, ap, ◌∙◌}
use mathlib.Core.List.{List, [], ◌∷◌, ◌++◌}
use Prim.Native.Nat.{ℕ, suc, ◌+◌, ◌≤◌, ◌<◌}
use native.Mathlib.Numerals.{add-one}
use lib.ListN.{length, get_or, drop, length-set, drop_of_length-le}
use lib.Seq.{drop-cons}
use Rattle.census.specs.Adding.{Add, add_at, add_all}
use Rattle.census.specs.Places.{window_adds, windows_from}

pub add_both : (first second : List Add) (counts : List ℕ) → add_all (first ++ second) counts ≡ add_all second (add_all first counts)
unfolding add_all
add_both [] second counts = refl
add_both (add ∷ first) second counts = add_both first second (add_at counts add.place add.amount)

pub add_length : (adds : List Add) (counts : List ℕ) → length (add_all adds counts) ≡ length counts
unfolding add_all
add_length [] counts = refl
add_length (add ∷ adds) counts = add_length adds (add_at counts add.place add.amount) ∙ simp length-set

-- ---- the windows of a table: those of the channels from here on are left

pub left_on : (cells : List (Option Window)) (i : ℕ) (counts : List ℕ) {counts' : List ℕ} → i < length cells
    → counts' ≡ add_all (window_adds i (get_or cells i None)) counts
    → add_all (windows_from (i + 1) (drop (i + 1) cells)) counts' ≡ add_all (windows_from i (drop i cells)) counts
unfolding windows_from
left_on cells i counts h e =
    let none : Option Window = None in
    let rest : List Add = windows_from (suc i) (drop (suc i) cells) in
    rw (add-one i) (ap (add_all rest) e ∙ sym (rw (drop-cons cells i none h) (add_both (window_adds i (get_or cells i none)) rest counts)))

pub left_end : (cells : List (Option Window)) {i : ℕ} (counts : List ℕ) → length cells ≤ i → add_all (windows_from i (drop i cells)) counts ≡ counts
unfolding windows_from add_all
left_end cells {i} counts h = ap (λ (l : List (Option Window)). add_all (windows_from i l) counts) (drop_of_length-le cells {i = i} h)
