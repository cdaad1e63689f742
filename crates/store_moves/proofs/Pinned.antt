-- `displaced` a second time: by where the first that leaves stands, and in numbers. Assumes nothing.
use mathlib.Core.Bool.{true, false}
use mathlib.Core.Path.{◌≡◌, refl}
use mathlib.Core.List.{List, [], ◌∷◌, ◌++◌, map}
use Prim.Native.Nat.{ℕ}
use Rattle.store.specs.Moves.{Stretch, staying, displaced}

abbrev pub stays : ℕ → Stretch
stays n = record { length = n; stays = true }

abbrev pub leaves : ℕ → Stretch
leaves n = record { length = n; stays = false }

-- "0 where none left"
pub displaced_none : (lengths : List ℕ) → displaced (map stays lengths) ≡ 0
unfolding displaced
displaced_none [] = refl
displaced_none (n ∷ lengths) = displaced_none lengths

-- "the bytes of those survivors that stand behind the first packet that left"
pub displaced_behind : (before : List ℕ) (n : ℕ) (behind : List Stretch) → displaced (map stays before ++ (leaves n ∷ behind)) ≡ staying behind
unfolding displaced
displaced_behind [] n behind = refl
displaced_behind (m ∷ before) n behind = displaced_behind before n behind

-- five packets, of which the second and the fourth leave; the last alone; the first alone; all
pub record Row : Type 0 where
  pub waiting : List Stretch
  pub moves : ℕ

unfoldable pub rows : List Row
rows =
    record { waiting = stays 40 ∷ leaves 100 ∷ stays 60 ∷ leaves 40 ∷ stays 50 ∷ []; moves = 110 }
    ∷ record { waiting = stays 40 ∷ stays 1500 ∷ leaves 60 ∷ []; moves = 0 }
    ∷ record { waiting = leaves 40 ∷ stays 1500 ∷ stays 60 ∷ []; moves = 1560 }
    ∷ record { waiting = leaves 40 ∷ leaves 1500 ∷ []; moves = 0 } ∷ []

pub displaced_rows : map (λ (r : Row). displaced r.waiting) rows ≡ map (λ (r : Row). r.moves) rows
unfolding displaced staying rows
displaced_rows = refl
