-- Stretches of a list, as far as it goes. Assumes nothing.
use mathlib.Core.Path.{◌≡◌, sym, ap}
use mathlib.Core.List.{List, []}
use Prim.Native.Nat.{ℕ, ◌-◌, ◌≤◌, ◌<◌, min}
use mathlib.Core.Logic.{◌⊎◌, inl, inr}
use Rattle.std.proofs.lemmas.Bool.{cases_lt}
use native.Mathlib.Omega.{arith}
use lib.ListN.{length, take, drop, length-take, length-drop, drop_of_length-le}
use lib.Seq.{take-length, take_all}
use Rattle.octets.specs.Bytes.{slice}

module _ (from to : ℕ) (l : List ℕ) where
  pub slice_crossed : to < from → [] ≡ slice from to l
  unfolding slice
  slice_crossed h = sym (drop_of_length-le (take to l) {i = from} (simp length-take (omega arith)))

  pub slice_long : length l ≤ to → slice from to l ≡ drop from l
  unfolding slice
  slice_long h = ap (drop from) (take_all to l h)

  -- an end past the list is the list's end
  pub slice_cut : slice from (min to (length l)) l ≡ slice from to l
  unfolding slice
  slice_cut = by (cases_lt to (length l))
    where
      by : (to < length l) ⊎ (length l ≤ to) → drop from (take (min to (length l)) l) ≡ drop from (take to l)
      by (inl h) = let e : min to (length l) ≡ to = omega arith in rw e
      by (inr h) = let e : min to (length l) ≡ length l = omega arith in rw (e, take-length, take_all to l h)

  pub slice_most : length (slice from to l) ≤ length l - from
  unfolding slice
  slice_most = simp (length-drop, length-take) (omega arith)
