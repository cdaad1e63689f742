-- Document 02, §9: "Counts are unsigned 64 bits." A count at 2^64 - 1 stays there.
use Rattle.std.specs.Prelude.{List, [], ◌∷◌, ℕ, ◌+◌, min, get_or, set}

-- 2^64 - 1
abbrev pub MOST : ℕ
MOST = 18446744073709551615

-- a count with an amount more
abbrev pub plus : ℕ → ℕ → ℕ
plus count amount = min MOST (count + amount)

-- an amount more at a place; a place that isn't there takes nothing
abbrev pub add_at : List ℕ → ℕ → ℕ → List ℕ
add_at counts place amount = set counts place (plus (get_or counts place 0) amount)

-- an amount for a place
pub record Add : Type 0 where
  pub place : ℕ
  pub amount : ℕ

abbrev pub to : ℕ → ℕ → Add
to place amount = record { place = place; amount = amount }

-- one after another
unfoldable pub add_all : List Add → List ℕ → List ℕ
add_all [] counts = counts
add_all (add ∷ adds) counts = add_all adds (add_at counts add.place add.amount)
