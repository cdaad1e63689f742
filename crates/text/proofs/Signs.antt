-- Whole numbers of 64 bits, by their sign. Assumes nothing.
use mathlib.Core.Bool.{Bool, false, true≢false, cond}
use mathlib.Core.List.{◌∷◌}
use mathlib.Core.Path.{◌≡◌, refl, sym, ap, ◌∙◌}
use Prim.Native.Nat.{ℕ, suc, ◌-◌, ◌^◌, ◌≤◌, ◌<◌}
use native.Mathlib.Omega.{arith}
use lib.Dec.{leb-zero}
use lib.IntN.{ℤ, pos, negsuc, nat_abs}
use lib.ListN.{length}
use lib.Signed.{le_z, non_neg}
use mir.Syntax.{w64}
use mir.Val.{SFits, of_z, to_z}
use mir.ValLaws.{to_z-of_z, to_z_pos}
use Rattle.text.specs.Laying.{decimal_text, signed_text}
use Rattle.text.proofs.Decimals.{decimal_most}

-- the code's test `value >= 0`
pub sign_is : (z : ℤ) → SFits w64 z → le_z (pos 0) (to_z w64 (of_z w64 z)) ≡ non_neg z
sign_is (pos n) f = rw (to_z-of_z w64 (pos n) f) (leb-zero n)
sign_is (negsuc n) f = rw (to_z-of_z w64 (negsuc n) f)

-- `!value` of a negative one is one less than its size
pub record Negative (z : ℤ) : Type 0 where
  pub less : ℕ
  pub size : nat_abs z ≡ suc less
  pub small : less < 2 ^ 63
  pub turned : to_z w64 (2 ^ 64 - 1 - of_z w64 z) ≡ pos less

pub negative : (z : ℤ) → SFits w64 z → non_neg z ≡ false → Negative z
negative (pos n) f h = absurd (true≢false h)
negative (negsuc n) f h =
    let bits : 2 ^ 64 - 1 - of_z w64 (negsuc n) ≡ n = omega (arith, f.sfits) in
    record { less = n; size = refl; small = f.sfits; turned = ap (to_z w64) bits ∙ to_z_pos w64 n f.sfits }

-- the text of each, from the code's test and its size
pub signed_is : (z : ℤ) (size : ℕ) (b : Bool) → SFits w64 z → size ≡ nat_abs (to_z w64 (of_z w64 z))
    → le_z (pos 0) (to_z w64 (of_z w64 z)) ≡ b → cond b (decimal_text size) (45 ∷ decimal_text size) ≡ signed_text z
unfolding signed_text
signed_is z size b f e h = rw (sym (sign_is z f) ∙ h, sym (e ∙ ap nat_abs (to_z-of_z w64 z f)))

-- a number whose size is below 10^j takes at most j digits and a sign
pub signed_most : (z : ℤ) (j : ℕ) → 0 < j → j ≤ 20 → nat_abs z < 10 ^ j → length (signed_text z) ≤ suc j
unfolding signed_text
signed_most (pos n) j o l h = omega (arith, decimal_most n j o l h)
signed_most (negsuc n) j o l h = omega (arith, decimal_most (suc n) j o l h)
