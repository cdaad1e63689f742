-- The stores of the channels added one after another. Assumes nothing.
use mathlib.Core.Path.{◌≡◌, refl, ap, ◌∙◌}
use Prim.Native.Nat.{ℕ, zero, suc, ◌+◌, ◌*◌, ◌^◌, ◌≤◌, ◌<◌}
use native.Mathlib.Numerals.{add-one}
use native.Mathlib.Omega.{arith}
use Rattle.session_read.specs.Lines.{MOST-ROOM, StartFits}
use Rattle.session_read.specs.Start.{SAID-COUNT, store_said, stores_of}

stores_most : {n : ℕ → ℕ} (count : ℕ) → StartFits n → count ≤ n SAID-COUNT → stores_of n count ≤ count * MOST-ROOM
unfolding stores_of
stores_most zero f h = omega arith
stores_most (suc count) f h = omega (arith, stores_most count f (omega arith), f.each count (omega arith))

-- ---- the loop: the stores of the first channels are added
pub record Adding (n : ℕ → ℕ) (total index : ℕ) : Type 0 where
  pub few : index ≤ n SAID-COUNT
  pub sum : total ≡ stores_of n index

pub adding_start : (n : ℕ → ℕ) → Adding n 0 0
unfolding stores_of
adding_start n = record { few = omega arith; sum = refl }

module _ {n : ℕ → ℕ} {total index : ℕ} (k : Adding n total index) where
  pub adding_room : StartFits n → index < n SAID-COUNT → total + store_said n index < 2 ^ 64
  adding_room f h = omega (arith, k.sum, stores_most index f k.few, f.few, f.each index h)

  pub adding_on : index < n SAID-COUNT → Adding n (total + store_said n index) (index + 1)
  unfolding stores_of
  adding_on h = record { few = omega arith; sum = rw (add-one index, k.sum) }

  pub adding_end : n SAID-COUNT ≤ index → total ≡ stores_of n (n SAID-COUNT)
  adding_end h = let all : index ≡ n SAID-COUNT = omega (arith, k.few) in k.sum ∙ ap (stores_of n) all
