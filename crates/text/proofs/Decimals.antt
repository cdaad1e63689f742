-- How many digits a number takes, and what is written of it. Assumes nothing.
use mathlib.Core.Path.{◌≡◌, refl, sym, ap, ◌∙◌}
use mathlib.Core.List.{List, [], ◌∷◌, ◌++◌}
use Prim.Native.Nat.{ℕ, zero, suc, ◌-◌, ◌*◌, ◌/◌, ◌%◌, ◌^◌, ◌≤◌, ◌<◌}
use native.Mathlib.Decide.{dec_le}
use native.Mathlib.Nat.{pow-suc, pow-le-pow_right, le_antisymm}
use native.Mathlib.Omega.{arith}
use borrow.Author.Tests.{lt-ltb, le-ltb}
use lib.ListN.{length, length-append}
use Rattle.io.specs.Digits.{last_digits, hex_digit_ascii, IsDigitCount}
use Rattle.text.specs.Laying.{last_digits_lem, decimal_text}

pub length_digits : (b k n : ℕ) → length (last_digits b k n) ≡ k
length_digits b zero n = refl
length_digits b (suc k) n = simp length-append (rw (length_digits b k (n / b)) (omega arith))

-- no more digits than hold the number, nor than were asked for
pub fewest_most : (b least n k j : ℕ) → 0 < b → IsDigitCount b least n k → n < b ^ j → least ≤ j → k ≤ j
fewest_most b least n k j o f h l = elim (dec_le k j) [ yes g ↦ g | no g ↦ absurd (more (omega arith)) ]
  where
    more : j < k → ⊥
    more g =
        let p : b ^ j ≤ b ^ (k - 1) = pow-le-pow_right {n = b} o {i = j} {j = k - 1} (omega arith) in
        let q : b ^ (k - 1) ≤ n = f.2 (omega arith) in
        omega arith

-- the digits that are written, and that they are the fewest
pub record Written (n : ℕ) (text : List ℕ) : Type 0 where
  pub count : ℕ
  pub fewest : IsDigitCount 10 1 n count
  pub same : text ≡ last_digits 10 count n

one_digit : (k n : ℕ) → n < 10 → Written n (last_digits_lem (suc k) n)
unfolding last_digits_lem
one_digit k n h = record { count = 1; fewest = (omega arith, h, λ g. absurd (omega arith)); same = rw (lt-ltb n 10 h) }

longer : (n k : ℕ) → 10 ≤ n → IsDigitCount 10 1 (n / 10) k → IsDigitCount 10 1 n (suc k)
longer n zero h f = absurd (omega (arith, f.0))
longer n (suc zero) h f = (omega arith, omega (arith, f.1), λ g. h)
longer n (suc (suc j)) h f =
    let m : suc (suc j) - 1 ≡ suc j = omega arith in
    let m' : suc (suc (suc j)) - 1 ≡ suc (suc j) = omega arith in
    let low : 10 ^ suc j ≤ n / 10 = rw m at (f.2 (omega arith)) in
    let p : 10 ^ suc (suc j) ≡ 10 ^ suc j * 10 = pow-suc 10 (suc j) in
    let q : 10 ^ suc (suc (suc j)) ≡ 10 ^ suc (suc j) * 10 = pow-suc 10 (suc (suc j)) in
    (omega arith, omega (arith, f.1), λ g. rw m' (omega arith))

written : (k n : ℕ) → n < 10 ^ suc k → Written n (last_digits_lem (suc k) n)
unfolding last_digits_lem
written zero n h = one_digit zero n h
written (suc k) n h = elim (dec_le 10 n) [ yes g ↦ many g (written k (n / 10)) | no g ↦ one_digit (suc k) n (omega arith) ]
  where
    many : 10 ≤ n → (n / 10 < 10 ^ suc k → Written (n / 10) (last_digits_lem (suc k) (n / 10))) → Written n (last_digits_lem (suc (suc k)) n)
    many g rest =
        let p : 10 ^ suc (suc k) ≡ 10 ^ suc k * 10 = pow-suc 10 (suc k) in
        let w = rest (omega arith) in
        record {
          count = suc w.count;
          fewest = longer n w.count g w.fewest;
          same = rw (le-ltb n 10 g) (ap (λ (l : List ℕ). l ++ (hex_digit_ascii (n % 10) ∷ [])) w.same);
        }

pub decimal_written : (n : ℕ) → n < 10 ^ 20 → Written n (decimal_text n)
unfolding decimal_text
decimal_written n h = written 19 n h

-- what `io::decimal` writes
pub decimal_is : (n k : ℕ) → n < 10 ^ 20 → IsDigitCount 10 1 n k → last_digits 10 k n ≡ decimal_text n
decimal_is n k h f =
    let w = decimal_written n h in
    let most = fewest_most 10 1 n k w.count (omega arith) f w.fewest.1 w.fewest.0 in
    let least = fewest_most 10 1 n w.count k (omega arith) w.fewest f.1 f.0 in
    ap (λ (m : ℕ). last_digits 10 m n) (le_antisymm most least) ∙ sym w.same

-- a number below 10^j takes at most j digits
pub decimal_most : (n j : ℕ) → 0 < j → j ≤ 20 → n < 10 ^ j → length (decimal_text n) ≤ j
decimal_most n j o l h =
    let p : 10 ^ j ≤ 10 ^ 20 = pow-le-pow_right {n = 10} (omega arith) {i = j} {j = 20} l in
    let w = decimal_written n (omega arith) in
    rw (w.same, length_digits 10 w.count n) (fewest_most 10 1 n w.count j (omega arith) w.fewest h o)
