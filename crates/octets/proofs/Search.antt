-- Where a byte first stands in a list is what std's `position` gives, or the list's length.
use Rattle.std.proofs.Common.{◌≡◌, ℕ, suc, ◌+◌, ◌-◌, ◌<◌, ◌≤◌, List, length, take, drop, get_or, nat_eq, true, false, Bool, cond, refl, ap, ◌∙◌, arith, Some, None}
use Rattle.std.proofs.Math.Seq.{slice-cons}
use Rattle.std.proofs.lemmas.Bool.{eq-eqb}
use Rattle.std.specs.List.{position, position_or_len}
use Rattle.std.proofs.lemmas.List.{drop-take}
use Rattle.std.proofs.lemmas.List.Recursion.{is_position_or_len}
use Rattle.std.proofs.lemmas.List.Sums.{prefix_len-le-length}
use Rattle.std.proofs.lemmas.Grind.{common_steps}
use Rattle.octets.specs.Bytes.{slice, index_of, index_after}

index_after_is : (b : Bool) (n : ℕ) → index_after b n ≡ cond b 0 (1 + n)
unfolding index_after
index_after_is true n = refl
index_after_is false n = omega arith

module _ (byte : ℕ) where
  index_of_is : (xs : List ℕ) → index_of byte xs ≡ position_or_len (λ x. nat_eq x byte) xs
  unfolding index_of
  index_of_is = is_position_or_len (index_of byte) (λ x. nat_eq x byte) refl (λ x xs. index_after_is (nat_eq x byte) (index_of byte xs))

  pub index_found : (i : ℕ) (xs : List ℕ) → position (λ x. nat_eq x byte) xs ≡ Some i → index_of byte xs ≡ i
  index_found i xs e = grind (arith, common_steps, index_of_is xs)

  pub index_absent : (xs : List ℕ) → position (λ x. nat_eq x byte) xs ≡ None → index_of byte xs ≡ length xs
  index_absent xs e = grind (arith, common_steps, index_of_is xs, prefix_len-le-length)

pub slice_is : (from to : ℕ) (text : List ℕ) → from ≤ to → slice from to text ≡ take (to - from) (drop from text)
unfolding slice
slice_is from to text h = let e : to ≡ from + (to - from) = omega arith in ap (λ n. drop from (take n text)) e ∙ drop-take from (to - from) text

-- a byte that stands at a part's start is found there
module _ (byte : ℕ) (text : List ℕ) (at to : ℕ) (lt : at < to) (room : to ≤ length text) where
  pub index_here : get_or text at 0 ≡ byte → index_of byte (slice at to text) ≡ 0
  unfolding index_of index_after slice
  index_here e = ap (index_of byte) (slice-cons at to text 0 lt room) ∙ ap (λ b. index_after b (index_of byte (slice (suc at) to text))) (eq-eqb (get_or text at 0) byte e)
