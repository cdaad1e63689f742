-- A line is cut where its first space stands. Assumes nothing.
use mathlib.Core.Path.{◌≡◌, sym, ap, ◌∙◌}
use mathlib.Core.List.{List}
use Prim.Native.Nat.{ℕ, ◌+◌, ◌-◌}
use native.Mathlib.Omega.{arith}
use lib.ListN.{length, take, drop, length-append, take-append-drop}
use lib.Seq.{take-length}
use Rattle.facts.proofs.Lists.{rest_part}
use Rattle.octets.specs.Bytes.{index_of, slice}
use Rattle.text.specs.Words.{head_of, tail_of}

-- where `octets::find` finds a space in the whole line
module _ (line : List ℕ) (end : ℕ) (found : end ≡ 0 + index_of 32 (slice 0 (length line) line)) where
  space_is : end ≡ index_of 32 line
  unfolding slice
  space_is = let e : end ≡ 0 + index_of 32 line = rw (take-length line) at found in omega arith

  pub head_is : take (end - 0) line ≡ head_of line
  unfolding head_of
  head_is = let e : end - 0 ≡ index_of 32 line = omega (arith, space_is) in ap (λ (n : ℕ). take n line) e

  pub tail_is : take (length line - end) (drop end line) ≡ tail_of line
  unfolding tail_of
  tail_is = rest_part end line ∙ ap (λ (n : ℕ). drop n line) space_is

-- the two parts are the whole
pub parts_length : (line : List ℕ) → length (head_of line) + length (tail_of line) ≡ length line
unfolding head_of tail_of
parts_length line = let n = index_of 32 line in sym (length-append (take n line) (drop n line)) ∙ ap length (take-append-drop n line)
