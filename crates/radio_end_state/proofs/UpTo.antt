-- A test that holds of each number below another. Assumes nothing.
use Prim.Native.Nat.{ℕ, zero, suc, ◌<◌}
use mathlib.Core.Bool.{Bool, true, false, and-eq-true_iff, and-false}
use mathlib.Core.Logic.{⊎_elim}
use mathlib.Core.Path.{◌≡◌, refl}
use native.Mathlib.Nat.{eq-or-lt_of_le}
use native.Mathlib.Omega.{arith}
use Rattle.radio_end_state.specs.Limits.{up_to}

module _ (test : ℕ → Bool) where
  pub up_to_at : (n : ℕ) → up_to test n ≡ true → (i : ℕ) → i < n → test i ≡ true
  unfolding up_to
  up_to_at zero e i h = absurd (omega arith)
  up_to_at (suc n) e i h =
      let both = (and-eq-true_iff (up_to test n) (test n)).0 e in
      ⊎_elim (λ (p : i ≡ n). rw p both.1) (λ (l : i < n). up_to_at n both.0 i l) (eq-or-lt_of_le (omega arith))

  pub up_to_by : (n : ℕ) → ((i : ℕ) → i < n → test i ≡ true) → up_to test n ≡ true
  unfolding up_to
  up_to_by zero f = refl
  up_to_by (suc n) f = rw (up_to_by n (λ i h. f i (omega arith)), f n (omega arith))

  pub up_to_out : (n i : ℕ) → i < n → test i ≡ false → up_to test n ≡ false
  unfolding up_to
  up_to_out zero i h e = absurd (omega arith)
  up_to_out (suc n) i h e =
      ⊎_elim (λ (p : i ≡ n). rw (← p, e, and-false)) (λ (l : i < n). rw (up_to_out n i l e)) (eq-or-lt_of_le (omega arith))
