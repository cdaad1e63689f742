-- Where the numbers of a row stand, and within which bounds: the row with each list written out as often as the number before it says.
use Rattle.std.specs.Prelude.{◌≡◌, Bool, true, false, cond, ◌&&◌, List, [], ◌∷◌, ◌++◌, ℕ, zero, suc, ◌+◌, ◌-◌, ◌*◌, ◌/◌, ◌<◌, ◌≤◌, eqb, ltb, length, take, get_or}
use Rattle.line_rows.specs.Rows.{NUMBER, LIST}
use Rattle.line_rows.specs.Tables.{items_behind}

-- the row of a command by its key
unfoldable pub keyed_of : ℕ → ℕ → List ℕ → List ℕ
keyed_of skip key [] = []
keyed_of skip key (k ∷ []) = []
keyed_of skip key (k ∷ (count ∷ table)) = cond (ltb 0 skip) (keyed_of (skip - 1) key table) (cond (eqb k key) (k ∷ (count ∷ table)) (keyed_of count key table))

unfoldable pub row_of_key : ℕ → List ℕ → List ℕ
row_of_key key table = items_behind (keyed_of 0 key table)

-- the number before a place, where `n` gives the number at each place
abbrev pub before : (ℕ → ℕ) → ℕ → ℕ
before n zero = 0
before n (suc place) = n place

-- items n times
unfoldable pub repeated : ℕ → List ℕ → List ℕ
repeated zero items = []
repeated (suc count) items = items ++ repeated count items

-- a row, whose first items are left out, written out from a place on
unfoldable pub written_out : ℕ → ℕ → List ℕ → (ℕ → ℕ) → List ℕ
written_out skip place [] n = []
written_out skip place (a ∷ []) n = []
written_out skip place (a ∷ (b ∷ row)) n =
    cond (ltb 0 skip) (written_out (skip - 1) place row n)
    (cond (eqb a LIST) (repeated (before n place) (take (b * 2) row) ++ written_out b (place + before n place * (length (take (b * 2) row) / 2)) row n)
    (a ∷ (b ∷ written_out 0 (place + 1) row n)))

-- each number of items that are written out is within its bound
pub record Within (items : List ℕ) (n : ℕ → ℕ) : Type 0 where
  pub most : (place : ℕ) → place * 2 < length items → get_or items (place * 2) 0 ≡ NUMBER → n place ≤ get_or items (place * 2 + 1) 0

-- two numbers for each item
abbrev pub paired : List ℕ → Bool
paired [] = true
paired (a ∷ []) = false
paired (a ∷ (b ∷ row)) = paired row

-- an item of a row is a number up to a bound, and no list stands before it
abbrev pub is_number : ℕ → ℕ → List ℕ → Bool
is_number place most [] = false
is_number place most (a ∷ []) = false
is_number zero most (a ∷ (b ∷ row)) = eqb a NUMBER && eqb b most
is_number (suc place) most (a ∷ (b ∷ row)) = cond (eqb a LIST) false (is_number place most row)
