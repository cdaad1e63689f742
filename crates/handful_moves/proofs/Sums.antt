-- Sums over the indexes below a count. Assumes nothing.
use Prim.Native.Nat.{ℕ, zero, suc, ◌+◌, ◌≤◌, ◌<◌}
use mathlib.Core.Bool.{cond}
use mathlib.Core.Logic.{⊎_elim}
use mathlib.Core.Path.{◌≡◌, refl, ◌∙◌}
use native.Mathlib.Omega.{arith}
use borrow.Author.Tests.{eq-eqb, ne_eqb}
use lib.Dec.{eqb}
use Rattle.ips_state.proofs.Channels.{same_or_not}
use Rattle.handful_moves.specs.HandfulMoves.{sum_below}

pub sum_none : (n : ℕ) → sum_below (λ index. 0) n ≡ 0
unfolding sum_below
sum_none zero = refl
sum_none (suc n) = let h : sum_below (λ index. 0) n ≡ 0 = sum_none n in omega arith

pub sum_both : (f g : ℕ → ℕ) (n : ℕ) → sum_below (λ index. f index + g index) n ≡ sum_below f n + sum_below g n
unfolding sum_below
sum_both f g zero = refl
sum_both f g (suc n) = let h : sum_below (λ index. f index + g index) n ≡ sum_below f n + sum_below g n = sum_both f g n in omega arith

pub sum_same : (f g : ℕ → ℕ) (n : ℕ) → ((index : ℕ) → index < n → f index ≡ g index) → sum_below f n ≡ sum_below g n
unfolding sum_below
sum_same f g zero h = refl
sum_same f g (suc n) h =
    let last : f n ≡ g n = h n (omega arith) in
    let more : sum_below f n ≡ sum_below g n = sum_same f g n (λ index inside. h index (omega arith)) in
    omega arith

pub sum_most : (f g : ℕ → ℕ) (n : ℕ) → ((index : ℕ) → index < n → f index ≤ g index) → sum_below f n ≤ sum_below g n
unfolding sum_below
sum_most f g zero h = omega arith
sum_most f g (suc n) h =
    let last : f n ≤ g n = h n (omega arith) in
    let more : sum_below f n ≤ sum_below g n = sum_most f g n (λ index inside. h index (omega arith)) in
    omega arith

-- a number at one place
module _ (place number : ℕ) where
  abbrev there : ℕ → ℕ
  there index = cond (eqb place index) number 0

  sum_before : (n : ℕ) → n ≤ place → sum_below there n ≡ 0
  sum_before n h = sum_same there (λ index. 0) n (λ index inside. rw (ne_eqb place index (λ e. omega arith))) ∙ sum_none n

  pub sum_one : (n : ℕ) → place < n → sum_below (λ index. cond (eqb place index) number 0) n ≡ number
  unfolding sum_below
  sum_one zero h = absurd (omega arith)
  sum_one (suc n) h =
      ⊎_elim (λ (e : place ≡ n). let none : sum_below there n ≡ 0 = sum_before n (omega arith) in rw (eq-eqb place n e) (omega arith))
      (λ (f : place ≡ n → ⊥). let more : sum_below there n ≡ number = sum_one n (omega arith) in rw (ne_eqb place n f) (omega arith)) (same_or_not place n)
