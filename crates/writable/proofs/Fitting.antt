-- Whether a number fits its length, by its bits. Assumes nothing.
use Rattle.std.proofs.Common.{◌≡◌, ℕ, zero, suc, ◌+◌, ◌*◌, ◌/◌, ◌^◌, ◌≤◌, ◌<◌, Bool, true, false, refl, sym, arith, pow-add, pow-suc, lt_of_lt_of_le, lit<}
use native.Mathlib.Nat.{pow-le-pow_right, div-eq_of_lt, div-lt_iff_lt-mul}
use borrow.Author.Tests.{ne_eqb, eq-eqb, lt-ltb, ltb-true, ltb-false}
use lib.Dec.{ltb, eqb}

pub fits_long : (number size : ℕ) → number < 2 ^ 64 → 8 ≤ size → ltb number (256 ^ size) ≡ true
fits_long number size h k = lt-ltb number (256 ^ size) (lt_of_lt_of_le h (pow-le-pow_right {n = 256} (lit< tt) {i = 8} {j = size} k))

bits_of_bytes : (size : ℕ) → 2 ^ (8 * size) ≡ 256 ^ size
bits_of_bytes zero = refl
bits_of_bytes (suc size) =
    let e : 8 * suc size ≡ 8 * size + 8 = omega arith in
    rw (e, pow-add 2 (8 * size) 8, bits_of_bytes size) (sym (pow-suc 256 size))

pub fits_bits : (number size : ℕ) → eqb (number / 2 ^ (8 * size)) 0 ≡ ltb number (256 ^ size)
fits_bits number size = rw (bits_of_bytes size) (go (ltb number (256 ^ size)) refl)
  where
    go : (b : Bool) → ltb number (256 ^ size) ≡ b → eqb (number / 256 ^ size) 0 ≡ b
    go true e = eq-eqb (number / 256 ^ size) 0 (div-eq_of_lt (ltb-true number (256 ^ size) e))
    go false e =
        let large = ltb-false number (256 ^ size) e in
        let one : 256 ^ 0 ≤ 256 ^ size = pow-le-pow_right {n = 256} (lit< tt) {i = 0} {j = size} (omega arith) in
        ne_eqb (number / 256 ^ size) 0 (λ z. let less : number < 1 * 256 ^ size = (div-lt_iff_lt-mul (omega arith)).0 (omega arith) in omega arith)
