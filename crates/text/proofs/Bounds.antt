-- What a caller learns of a number that was read. Assumes nothing.
use Rattle.std.specs.Prelude.{Option, Some, None}
use mathlib.Core.Bool.{Bool, true, false, not, cond, ◌&&◌, and-eq-true_iff}
use mathlib.Core.Path.{◌≡◌, refl, sym, ap, ◌∙◌}
use mathlib.Core.List.{List, [], ◌∷◌}
use Prim.Native.Nat.{ℕ, suc, ◌+◌, ◌-◌, ◌*◌, ◌^◌, ◌≤◌, ◌<◌}
use native.Mathlib.Decide.{dec_le}
use native.Mathlib.Nat.{mul_assoc, mul-le-mul_right, pow-zero, pow-succ', pow-le-pow_right}
use native.Mathlib.Omega.{arith}
use borrow.Author.Tests.{ltb-true, leb-true, eqb-false, not-true}
use lib.Dec.{ltb, leb, eqb}
use lib.ListN.{length}
use Rattle.facts.proofs.Tests.{clash}
use Rattle.text.specs.Numbers.{within, digit_of, step_of, and_then, follow_of, by_size, plain_of, parse_of}

-- a test that lets a number through was passed
passed : (t : Bool) (n : Option ℕ) {read : ℕ} → cond t n None ≡ Some read → (t ≡ true) × (n ≡ Some read)
passed true n e = (refl, e)
passed false n e = ((cc), (cc))

-- a digit that was read
record Stepped (base most value byte longer : ℕ) : Type 0 where
  digit : digit_of byte < base
  same : longer ≡ value * base + digit_of byte
  bound : longer ≤ most

stepped : (base most value byte : ℕ) {longer : ℕ} → step_of base most value byte ≡ Some longer → Stepped base most value byte longer
unfolding step_of
stepped base most value byte {longer} e =
    let sum : ℕ = value * base + digit_of byte in
    let p = passed (ltb (digit_of byte) base && leb sum most) (Some sum) e in
    let q = (and-eq-true_iff (ltb (digit_of byte) base) (leb sum most)).0 p.0 in
    let same : longer ≡ sum = cc p.1 in
    record { digit = ltb-true (digit_of byte) base q.0; same = same; bound = omega (arith, leb-true sum most q.1) }

-- what digits make of a number is at most the bound, and at least the number with as many zeros
record Followed (base most value : ℕ) (digits : List ℕ) (read : ℕ) : Type 0 where
  bound : read ≤ most
  grows : value * base ^ length digits ≤ read

followed : (base most value : ℕ) (digits : List ℕ) (read : ℕ) → value ≤ most → follow_of base most value digits ≡ Some read
    → Followed base most value digits read
unfolding follow_of
followed base most value [] read h e =
    let same : value ≡ read = cc in
    let z : value * base ^ 0 ≡ value * 1 = ap (λ (n : ℕ). value * n) (pow-zero base) in
    record { bound = omega arith; grows = omega arith }
followed base most value (byte ∷ digits) read h e = go (step_of base most value byte) refl (λ longer. followed base most longer digits read) e
  where
    go : (n : Option ℕ) → step_of base most value byte ≡ n
        → ((longer : ℕ) → longer ≤ most → follow_of base most longer digits ≡ Some read → Followed base most longer digits read)
        → and_then n (λ longer. follow_of base most longer digits) ≡ Some read → Followed base most value (byte ∷ digits) read
    go None q f p = clash (cc)
    go (Some longer) q f p =
        let k = stepped base most value byte q in
        let rest = f longer k.bound p in
        let zeros : ℕ = base ^ length digits in
        let one : base ^ suc (length digits) ≡ base * zeros = pow-succ' base (length digits) in
        let e' : value * base ^ suc (length digits) ≡ value * base * zeros = ap (λ (n : ℕ). value * n) one ∙ sym (mul_assoc value base zeros) in
        let l : value * base * zeros ≤ longer * zeros = mul-le-mul_right zeros (omega (arith, k.same)) in
        record { bound = rest.bound; grows = omega (arith, rest.grows) }

pub follow_most : (base most : ℕ) (digits : List ℕ) {read : ℕ} → follow_of base most 0 digits ≡ Some read → read ≤ most
follow_most base most digits e = (followed base most 0 digits _ (omega arith) e).bound

module _ (most : ℕ) (word : List ℕ) {read : ℕ} (e : parse_of most word ≡ Some read) where
  plain_read : (plain_of word ≡ true) × (follow_of 10 most 0 word ≡ Some read)
  unfolding parse_of
  plain_read = passed (plain_of word) (follow_of 10 most 0 word) e

  -- a number that was read is at most the bound
  pub parse_most : read ≤ most
  parse_most = follow_most 10 most word plain_read.1

-- a byte other than `0` is no digit 0
digit_more : (byte : ℕ) → (byte ≡ 48 → ⊥) → 0 < digit_of byte
unfolding digit_of
digit_more byte h = go (within 48 57 byte) (within 97 102 byte) (λ q. leb-true 48 byte ((and-eq-true_iff (leb 48 byte) (leb byte 57)).0 q).0)
  where
    go : (t u : Bool) → (t ≡ true → 48 ≤ byte) → 0 < cond t (byte - 48) (cond u (byte - 97 + 10) 16)
    go true u f = omega (arith, f refl)
    go false true f = omega arith
    go false false f = omega arith

-- and its word has no more digits than the bound
pub parse_short : (most j : ℕ) (word : List ℕ) {read : ℕ} → 0 < j → most < 10 ^ j → parse_of most word ≡ Some read → length word ≤ j
unfolding plain_of by_size follow_of
parse_short most j [] o h e = omega arith
parse_short most j (a ∷ []) o h e = omega arith
parse_short most j (a ∷ (b ∷ word)) {read} o h e = go (step_of 10 most 0 a) refl k.1
  where
    k : (not (eqb a 48) ≡ true) × (follow_of 10 most 0 (a ∷ (b ∷ word)) ≡ Some read)
    k = plain_read most (a ∷ (b ∷ word)) e

    digits : List ℕ
    digits = b ∷ word

    short : (first : ℕ) → 0 < first → Followed 10 most first digits read → j ≤ length digits → ⊥
    short first p f g =
        let l : 1 * 10 ^ length digits ≤ first * 10 ^ length digits = mul-le-mul_right (10 ^ length digits) p in
        let m : 10 ^ j ≤ 10 ^ length digits = pow-le-pow_right {n = 10} (omega arith) {i = j} {j = length digits} g in
        omega (arith, f.bound, f.grows)

    go : (n : Option ℕ) → step_of 10 most 0 a ≡ n → and_then n (λ longer. follow_of 10 most longer digits) ≡ Some read → suc (length digits) ≤ j
    go None q p = clash (cc)
    go (Some first) q p =
        let s = stepped 10 most 0 a q in
        let more : 0 < first = omega (arith, s.same, digit_more a (eqb-false a 48 (not-true (eqb a 48) k.0))) in
        let rest = followed 10 most first digits read s.bound p in
        elim (dec_le j (length digits)) [ yes g ↦ absurd (short first more rest g) | no g ↦ omega arith ]
