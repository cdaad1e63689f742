-- Digits read one by one. Assumes nothing.
use Rattle.std.specs.Prelude.{Some, None}
use mathlib.Core.Bool.{true, false, and-false}
use mathlib.Core.Path.{◌≡◌, refl}
use mathlib.Core.List.{List, [], ◌∷◌}
use Prim.Native.Nat.{ℕ, ◌+◌, ◌-◌, ◌*◌, ◌/◌, ◌≤◌, ◌<◌}
use native.Mathlib.Decide.{dec_le}
use native.Mathlib.Nat.{le-div_iff_mul-le, div-lt_iff_lt-mul}
use native.Mathlib.Numerals.{add-one}
use native.Mathlib.Omega.{arith}
use borrow.Author.Tests.{lt-ltb, le-ltb, le-leb, lt-leb}
use lib.ListN.{length, get_or, drop, drop_of_length-le}
use lib.Seq.{drop-cons}
use Rattle.text.specs.Numbers.{within, digit_of, step_of, follow_of, by_size}

-- ---- a digit

within_yes : (from to byte : ℕ) → from ≤ byte → byte ≤ to → within from to byte ≡ true
within_yes from to byte h g = simp (le-leb from byte h, le-leb byte to g)

within_no : (from to byte : ℕ) → (from ≤ byte → to < byte) → within from to byte ≡ false
within_no from to byte h =
    elim (dec_le from byte) [ yes g ↦ simp (lt-leb byte to (h g), and-false) | no g ↦ simp (lt-leb from byte (omega arith)) ]

pub digit_decimal : (byte : ℕ) → 48 ≤ byte → byte ≤ 57 → byte - 48 ≡ digit_of byte
unfolding digit_of
digit_decimal byte h g = rw (within_yes 48 57 byte h g)

pub digit_letter : (byte : ℕ) → 97 ≤ byte → byte ≤ 102 → byte - 97 + 10 ≡ digit_of byte
unfolding digit_of
digit_letter byte h g = let low : 48 ≤ byte → 57 < byte = omega arith in rw (within_no 48 57 byte low, within_yes 97 102 byte h g)

pub digit_none : (byte : ℕ) → (48 ≤ byte → 57 < byte) → (97 ≤ byte → 102 < byte) → 16 ≡ digit_of byte
unfolding digit_of
digit_none byte h g = rw (within_no 48 57 byte h, within_no 97 102 byte g)

-- ---- one digit more

module _ (base most value byte : ℕ) where
  pub step_none : base ≤ digit_of byte → None ≡ step_of base most value byte
  unfolding step_of
  step_none h = rw (le-ltb (digit_of byte) base h)

  pub step_over : most < value * base + digit_of byte → None ≡ step_of base most value byte
  unfolding step_of
  step_over h = rw (lt-leb (value * base + digit_of byte) most h, and-false)

  pub step_on : (d : ℕ) → d ≡ digit_of byte → d < base → value * base + d ≤ most
      → Some (value * base + d) ≡ step_of base most value byte
  unfolding step_of
  step_on d e h g =
      let h' : digit_of byte < base = rw e at h in
      let g' : value * base + digit_of byte ≤ most = rw e at g in
      rw (e, lt-ltb (digit_of byte) base h', le-leb (value * base + digit_of byte) most g')

-- the code's test for the bound, which never wraps
module _ (base most value d : ℕ) (o : 0 < base) (h : d ≤ most) where
  pub bound_kept : value ≤ (most - d) / base → value * base + d ≤ most
  bound_kept g = omega (arith, (le-div_iff_mul-le {k = base} {x = value} {y = most - d} o).0 g)

  pub bound_passed : (most - d) / base < value → most < value * base + d
  bound_passed g = omega (arith, (div-lt_iff_lt-mul {k = base} {x = most - d} {y = value} o).0 g)

-- ---- digits more

pub next : (s : List ℕ) (i : ℕ) → i < length s → drop i s ≡ get_or s i 0 ∷ drop (i + 1) s
next s i h = rw (add-one i) (drop-cons s i 0 h)

-- what is left to follow gives the same as the whole
pub record Follows (base most : ℕ) (digits : List ℕ) (value i : ℕ) : Type 0 where
  pub within : i ≤ length digits
  pub same : follow_of base most value (drop i digits) ≡ follow_of base most 0 digits

module _ {base most : ℕ} {digits : List ℕ} {value i : ℕ} (k : Follows base most digits value i) where
  pub follow_on : {longer : ℕ} → i < length digits → step_of base most value (get_or digits i 0) ≡ Some longer
      → Follows base most digits longer (i + 1)
  unfolding follow_of
  follow_on h e = record { within = omega arith; same = rw (next digits i h, e) at k.same }

  pub follow_bad : i < length digits → step_of base most value (get_or digits i 0) ≡ None → None ≡ follow_of base most 0 digits
  unfolding follow_of
  follow_bad h e = rw (next digits i h, e) at k.same

  pub follow_end : length digits ≤ i → Some value ≡ follow_of base most 0 digits
  unfolding follow_of
  follow_end h = rw (drop_of_length-le digits {i = i} h) at k.same

-- ---- a word, by its size

module _ {A : Type 0} (none : A) (one : ℕ → A) (more : A) where
  pub size_none : (word : List ℕ) → length word ≡ 0 → none ≡ by_size none one more word
  unfolding by_size
  size_none [] h = refl
  size_none (a ∷ word) h = absurd (omega arith)

  pub size_one : (word : List ℕ) → length word ≡ 1 → one (get_or word 0 0) ≡ by_size none one more word
  unfolding by_size
  size_one [] h = absurd (omega arith)
  size_one (a ∷ []) h = refl
  size_one (a ∷ (b ∷ word)) h = absurd (omega arith)

  pub size_more : (word : List ℕ) → 1 < length word → more ≡ by_size none one more word
  unfolding by_size
  size_more [] h = absurd (omega arith)
  size_more (a ∷ []) h = absurd (omega arith)
  size_more (a ∷ (b ∷ word)) h = refl
