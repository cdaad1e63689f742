-- The pass for number 23. Assumes nothing.
use Prim.Native.Nat.{ℕ, ◌<◌}
use mathlib.Core.Bool.{Bool, true, false, ◌&&◌}
use mathlib.Core.List.{List}
use mathlib.Core.Path.{◌≡◌, ◌∙◌}
use native.Mathlib.Omega.{arith}
use lib.Dec.{leb}
use lib.ListN.{length, get_or}
use Rattle.quantity.specs.Limits.{MOST-ALLOWANCE}
use Rattle.radio_end_state.specs.State.{no_setting}
use Rattle.radio_end_state.specs.Limits.{allowance_fits, allowances_fit}
use Rattle.radio_end_state.proofs.UpTo.{up_to_by, up_to_out}
use Rattle.radio_end_start.specs.Start.{START-WATERMARK, START-THROUGHPUT, start_word, setting_in, settings_of}
use Rattle.radio_end_start.proofs.Settings.{settings_length, settings_at}

-- a channel's two numbers, as its words say
abbrev pub allowed_in : List ℕ → ℕ → Bool
allowed_in w i = leb (start_word w i START-WATERMARK) MOST-ALLOWANCE && leb (start_word w i START-THROUGHPUT) MOST-ALLOWANCE

module _ (w : List ℕ) (count : ℕ) where
  pub allowed_at_lem : (i : ℕ) → i < count → allowance_fits (get_or (settings_of w count) i no_setting) ≡ allowed_in w i
  unfolding setting_in
  allowed_at_lem i h = rw (settings_at w count i h)

  pub all_allowed : ((i : ℕ) → i < count → allowed_in w i ≡ true) → allowances_fit (settings_of w count) ≡ true
  unfolding allowances_fit
  all_allowed each =
      up_to_by (λ i. allowance_fits (get_or (settings_of w count) i no_setting)) (length (settings_of w count)) (λ i l. let low : i < count = omega (arith, settings_length w count) in allowed_at_lem i low ∙ each i low)

  pub one_large : (i : ℕ) → i < count → allowed_in w i ≡ false → allowances_fit (settings_of w count) ≡ false
  unfolding allowances_fit
  one_large i h e = up_to_out (λ k. allowance_fits (get_or (settings_of w count) k no_setting)) (length (settings_of w count)) i (omega (arith, settings_length w count)) (allowed_at_lem i h ∙ e)
