-- The pacer's three times in words 10 to 12. Assumes nothing.
use Prim.Native.Nat.{ℕ, ◌≤◌, ◌<◌}
use mathlib.Core.Bool.{true}
use mathlib.Core.List.{List}
use mathlib.Core.Logic.{◌⊎◌, inl, inr, ⊎_elim}
use mathlib.Core.Path.{◌≡◌}
use native.Mathlib.Nat.{eq-or-lt_of_le}
use native.Mathlib.Omega.{arith}
use borrow.Author.Tests.{le-ltb}
use lib.ListN.{length, get_or}
use Rattle.pacer.specs.declared.Pacer.{Pacer}
use Rattle.ips_state.specs.Limits.{state_fits}
use Rattle.ips_run.specs.Run.{in_time}
use Rattle.ips_words.specs.Words.{CLOCK-WORD, state_in, put_pacer}
use Rattle.ips_words.proofs.Pacers.{three_first, three_second, three_third, fit_pacer}

pub eight_or_nine : (k : ℕ) → 7 < k → k < 10 → (k ≡ 8) ⊎ (k ≡ 9)
eight_or_nine k low high =
    let least : 8 ≤ k = omega arith in
    ⊎_elim (λ (e : 8 ≡ k). inl (omega arith)) (λ (l : 8 < k). inr (omega arith)) (eq-or-lt_of_le least)

module _ (words : List ℕ) (p : Pacer) (room : 14 ≤ length words) where
  pub clock_written : get_or (put_pacer words p) 10 0 ≡ p.clock
  unfolding put_pacer
  clock_written = three_first words CLOCK-WORD p.clock p.due p.heard (omega arith)

  pub due_written : get_or (put_pacer words p) 11 0 ≡ p.due
  unfolding put_pacer
  due_written = three_second words CLOCK-WORD p.clock p.due p.heard (omega arith)

  pub heard_written : get_or (put_pacer words p) 12 0 ≡ p.heard
  unfolding put_pacer
  heard_written = three_third words CLOCK-WORD p.clock p.due p.heard (omega arith)

-- words of a state within the limits say the pacer's clock in word 10
pub timely_by : (words : List ℕ) (time : ℕ) → state_fits (state_in words) ≡ true → get_or words 10 0 ≤ time → in_time time (state_in words) ≡ true
timely_by words time fits on_time = rw (fits, fit_pacer words fits, le-ltb time (get_or words 10 0) on_time)
