-- The lengths of a handful added up by what is left of the buffer. Assumes nothing.
use Prim.Native.Nat.{ℕ, zero, suc, ◌+◌, ◌-◌, ◌≤◌, ◌<◌}
use mathlib.Core.Bool.{false}
use mathlib.Core.List.{List}
use mathlib.Core.Path.{◌≡◌, refl, sym, ◌∙◌}
use native.Mathlib.Numerals.{add-one}
use native.Mathlib.Omega.{arith}
use borrow.Author.Tests.{eq-eqb, ne_eqb}
use lib.Dec.{eqb}
use lib.ListN.{length, drop, get_or, drop_of_length-le}
use lib.Seq.{drop-cons}
use Rattle.handful.specs.Handful.{sum_of}

pub sum_next : (ns : List ℕ) (i : ℕ) → i < length ns → sum_of (drop i ns) ≡ get_or ns i 0 + sum_of (drop (i + 1) ns)
unfolding sum_of
sum_next ns i h = rw (add-one i, drop-cons ns i 0 h)

pub sum_over : (ns : List ℕ) (i : ℕ) → length ns ≤ i → sum_of (drop i ns) ≡ 0
unfolding sum_of
sum_over ns i h = rw (drop_of_length-le ns h)

-- what is left of the buffer behind the lengths passed
pub record Adding (lengths : List ℕ) (bytes left at : ℕ) : Type 0 where
  pub inside : at ≤ length lengths
  pub left_is : bytes + sum_of (drop at lengths) ≡ left + sum_of lengths
  pub within : left ≤ bytes

module _ (lengths : List ℕ) (bytes : ℕ) where
  pub adding_start : Adding lengths bytes bytes 0
  adding_start = record { inside = omega arith; left_is = refl; within = omega arith }

  module _ (left at : ℕ) (v : Adding lengths bytes left at) where
    module _ (inside : at < length lengths) (n : ℕ) (is : n ≡ get_or lengths at 0) where
      pub adding_next : n ≤ left → Adding lengths bytes (left - n) (at + 1)
      adding_next h = record { inside = omega arith; left_is = omega (arith, sum_next lengths at inside, v.left_is); within = omega (arith, v.within) }

      pub adding_more : left < n → false ≡ eqb (sum_of lengths) bytes
      adding_more h = sym (ne_eqb (sum_of lengths) bytes (λ e. omega (arith, sum_next lengths at inside, v.left_is)))

    pub adding_end : length lengths ≤ at → eqb left 0 ≡ eqb (sum_of lengths) bytes
    adding_end over = go left (omega (arith, sum_over lengths at over, v.left_is))
      where
        go : (n : ℕ) → bytes ≡ n + sum_of lengths → eqb n 0 ≡ eqb (sum_of lengths) bytes
        go zero e = sym (eq-eqb (sum_of lengths) bytes (omega arith))
        go (suc n) e = ne_eqb (suc n) 0 (λ q. omega arith) ∙ sym (ne_eqb (sum_of lengths) bytes (λ q. omega arith))
