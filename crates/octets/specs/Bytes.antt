-- A part of a list, and where a byte first stands in one.
use Rattle.std.specs.Prelude.{ℕ, suc, Bool, true, false, List, [], ◌∷◌, take, drop, nat_eq}

-- from one index to another
unfoldable pub slice : (from to : ℕ) → List ℕ → List ℕ
slice from to text = drop from (take to text)

-- 0 here, or one more than further on
unfoldable pub index_after : Bool → ℕ → ℕ
index_after true n = 0
index_after false n = suc n

-- where a byte first stands; the length where it stands nowhere
unfoldable pub index_of : ℕ → List ℕ → ℕ
index_of byte [] = 0
index_of byte (x ∷ rest) = index_after (nat_eq x byte) (index_of byte rest)
