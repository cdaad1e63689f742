-- The settings that a configuration's words say, one by one. Assumes nothing.
use Prim.Native.Nat.{ℕ, zero, suc, ◌+◌, ◌<◌}
use mathlib.Core.List.{List, [], ◌∷◌, ◌++◌}
use mathlib.Core.Path.{◌≡◌, refl, ap, ◌∙◌}
use native.Mathlib.Numerals.{add-one}
use native.Mathlib.Omega.{arith}
use lib.ListN.{length, get_or, take}
use lib.Seq.{take-suc}
use Rattle.facts.proofs.Tables.{length_tabulate, get_d_tabulate}
use Rattle.radio_end_state.specs.declared.channel.Setting.{Setting}
use Rattle.radio_end_state.specs.State.{no_setting}
use Rattle.radio_end_state.specs.Limits.{setting_ids}
use Rattle.radio_end_start.specs.Start.{START-ID, start_word, setting_in, settings_of}

-- ---- the IDs of settings
pub setting_ids_at : (ks : List Setting) (i : ℕ) → get_or (setting_ids ks) i 0 ≡ (get_or ks i no_setting).id
unfolding setting_ids
setting_ids_at [] i = refl
setting_ids_at (k ∷ ks) zero = refl
setting_ids_at (k ∷ ks) (suc i) = setting_ids_at ks i

pub setting_ids_length : (ks : List Setting) → length (setting_ids ks) ≡ length ks
unfolding setting_ids
setting_ids_length [] = refl
setting_ids_length (k ∷ ks) = ap suc (setting_ids_length ks)

module _ (w : List ℕ) (count : ℕ) where
  pub settings_length : length (settings_of w count) ≡ count
  unfolding settings_of
  settings_length = length_tabulate count (setting_in w)

  pub numbers_length : length (setting_ids (settings_of w count)) ≡ count
  numbers_length = setting_ids_length (settings_of w count) ∙ settings_length

  module _ (at : ℕ) (inside : at < count) where
    pub settings_at : get_or (settings_of w count) at no_setting ≡ setting_in w at
    unfolding settings_of
    settings_at = get_d_tabulate count (setting_in w) at no_setting inside

    pub number_at : get_or (setting_ids (settings_of w count)) at 0 ≡ start_word w at START-ID
    unfolding setting_in
    number_at = setting_ids_at (settings_of w count) at ∙ ap (λ (k : Setting). k.id) settings_at

    pub one_more : take (at + 1) (settings_of w count) ≡ take at (settings_of w count) ++ (setting_in w at ∷ [])
    one_more = rw (add-one, ← settings_at) (take-suc (settings_of w count) at no_setting (omega (arith, settings_length)))
