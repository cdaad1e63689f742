-- The ways out of a start on words. Assumes nothing.
use Rattle.quantity.specs.declared.refusal.Refusal.{Refusal}
use Rattle.std.specs.Prelude.{Result, Ok}
use Prim.Native.Nat.{ℕ, ◌≤◌, ◌<◌}
use mathlib.Core.Bool.{Bool, true, false, and-false, and-eq-true_iff}
use mathlib.Core.List.{List}
use mathlib.Core.Path.{◌≡◌, refl, sym, ap, ◌∙◌}
use native.Mathlib.Omega.{arith}
use borrow.Author.Tests.{leb-true, ltb-true, eqb-true, eq-eqb, ne_eqb}
use lib.Dec.{eqb, leb}
use lib.ListN.{length, get_or}
use Rattle.facts.proofs.Tests.{clash}
use Rattle.quantity.specs.Limits.{FEWEST-CHANNELS, MOST-CHANNELS, RESERVED-CHANNEL}
use Rattle.quantity.specs.Refusals.{OUTSIDE-LIMITS, LARGE-ALLOWANCE}
use Rattle.radio_end_state.specs.declared.channel.Setting.{Setting}
use Rattle.radio_end_state.specs.State.{Configuration, no_setting, fresh_state}
use Rattle.radio_end_state.specs.Limits.{up_to, stands_first, has_id, ids_fit, count_fits, datalink_fits, setting_fits, settings_fit, setting_ids, allowances_fit, configuration_fits}
use Rattle.radio_end_state.proofs.UpTo.{up_to_at}
use Rattle.radio_end_words.specs.Words.{word, words_for, state_words}
use Rattle.radio_end_start.specs.Start.{CONFIGURED-COUNT, START-ID, configuration_length, start_word, settings_of, configuration_of, kinds_spelled, configuration_readable, configuration_in, starts_in, not_started, StartedIn, Configured, Startable}
use Rattle.radio_end_start.proofs.Settings.{settings_length}
use Rattle.radio_end_start.proofs.Walking.{fits_at}
use Rattle.radio_end_start.proofs.Looking.{says, unreadable}

-- ---- a configuration within the limits, as facts
pub record Fitting (k : Configuration) : Type 0 where
  pub datalink : k.datalink.0 < 256
  pub some : 1 ≤ length k.settings
  pub few : length k.settings ≤ 64
  pub each : (index : ℕ) → index < length k.settings → setting_fits (get_or k.settings index no_setting) ≡ true
  pub apart : up_to (stands_first (setting_ids k.settings)) (length (setting_ids k.settings)) ≡ true
  pub primary : has_id 0 (setting_ids k.settings) ≡ true

pub fitting : (k : Configuration) → configuration_fits k ≡ true → Fitting k
unfolding configuration_fits settings_fit ids_fit
fitting k e =
    let a = (and-eq-true_iff (datalink_fits k.datalink) _).0 e in
    let b = (and-eq-true_iff (count_fits (length k.settings)) _).0 a.1 in
    let d = (and-eq-true_iff (leb FEWEST-CHANNELS (length k.settings)) _).0 b.0 in
    let f = (and-eq-true_iff (settings_fit k.settings) _).0 b.1 in
    let g = (and-eq-true_iff (up_to (stands_first (setting_ids k.settings)) (length (setting_ids k.settings))) _).0 f.1 in
    record {
      datalink = ltb-true _ 256 a.0;
      some = leb-true FEWEST-CHANNELS _ d.0;
      few = leb-true _ MOST-CHANNELS d.1;
      each = up_to_at (λ index. setting_fits (get_or k.settings index no_setting)) (length k.settings) f.0;
      apart = g.0;
      primary = g.1;
    }

module _ (w : List ℕ) where
  abbrev count : ℕ
  count = word w CONFIGURED-COUNT

  pub readable_parts : configuration_readable w ≡ true → (length w ≡ configuration_length count) × (kinds_spelled w count ≡ true)
  unfolding configuration_readable
  readable_parts e =
      let a = (and-eq-true_iff (eqb (length w) (configuration_length count)) _).0 e in
      (eqb-true _ _ a.0, a.1)

  -- ---- what is known of words that stand for one
  module _ (fits : configuration_fits (configuration_in w) ≡ true) where
    pub fits_readable : configuration_readable w ≡ true
    fits_readable = go (configuration_readable w) refl
      where
        go : (b : Bool) → configuration_readable w ≡ b → b ≡ true
        go true e = refl
        go false e = clash (unreadable w e ∙ fits)

    pub settings_are : (configuration_in w).settings ≡ settings_of w count
    unfolding configuration_of
    settings_are = rw (says w fits_readable)

    pub count_is : length (configuration_in w).settings ≡ count
    count_is = rw settings_are (settings_length w count)

    pub few_are : count ≤ MOST-CHANNELS
    few_are = rw count_is at (fitting (configuration_in w) fits).few

    pub configuration_long : length w ≡ configuration_length count
    configuration_long = (readable_parts fits_readable).0

    pub id_below : (index : ℕ) → index < count → start_word w index START-ID < RESERVED-CHANNEL
    id_below index inside =
        ltb-true _ RESERVED-CHANNEL (sym (fits_at w count index inside) ∙ ap (λ (ks : List Setting). setting_fits (get_or ks index no_setting)) (sym settings_are) ∙ (fitting (configuration_in w) fits).each index (omega (arith, count_is)))

    module _ (counted : ℕ) (is : counted ≡ count) where
      pub configured : Configured w counted
      configured = rw is record { long = configuration_long; few = few_are }

      pub startable : Startable w counted
      startable = rw is record { long = configuration_long; count_is = refl; few = few_are; ids = id_below }

  -- ---- the ways out
  module _ (words : List ℕ) (judged : Bool) (is : judged ≡ configuration_fits (configuration_in w)) where
    refused_start : starts_in w words ≡ false → (r : Result (Unit {0}) Refusal) → r ≡ not_started OUTSIDE-LIMITS → StartedIn w words r words
    refused_start e r not-started = record { answer_is = not-started ∙ rw e; words_are = rw e }

    pub begin_unfit : judged ≡ false → (r : Result (Unit {0}) Refusal) → r ≡ not_started OUTSIDE-LIMITS → StartedIn w words r words
    unfolding starts_in
    begin_unfit e = refused_start (rw (sym is ∙ e))

    module _ (good : judged ≡ true) (counted : ℕ) (counted_is : counted ≡ count) where
      fits : configuration_fits (configuration_in w) ≡ true
      fits = sym is ∙ good

      pub begin_words : (length words ≡ words_for counted → ⊥) → (r : Result (Unit {0}) Refusal) → r ≡ not_started OUTSIDE-LIMITS → StartedIn w words r words
      unfolding starts_in
      begin_words f = refused_start (rw (count_is fits, ne_eqb (length words) (words_for count) (λ e. f (e ∙ ap words_for (sym counted_is))), and-false))

      module _ (room : length words ≡ words_for counted) where
        starts : starts_in w words ≡ true
        unfolding starts_in
        starts = rw (fits, count_is fits, eq-eqb (length words) (words_for count) (room ∙ ap words_for counted_is))

        module _ (allowed : Bool) (tested : allowed ≡ allowances_fit (settings_of w counted)) where
          allowances_are : allowances_fit (configuration_in w).settings ≡ allowed
          allowances_are = ap allowances_fit (settings_are fits ∙ ap (settings_of w) (sym counted_is)) ∙ sym tested

          pub begin_large : allowed ≡ false → (r : Result (Unit {0}) Refusal) → r ≡ not_started LARGE-ALLOWANCE → StartedIn w words r words
          begin_large e r not-started =
              let large : allowances_fit (configuration_in w).settings ≡ false = allowances_are ∙ e in
              record { answer_is = not-started ∙ rw (starts, large); words_are = rw (starts, large) }

          pub begun : allowed ≡ true → (words' : List ℕ) → words' ≡ state_words (fresh_state (configuration_of w)) → StartedIn w words (Ok tt) words'
          begun e words' written =
              let all : allowances_fit (configuration_in w).settings ≡ true = allowances_are ∙ e in
              record { answer_is = rw (starts, all); words_are = rw (starts, all, says w (fits_readable fits)) written }
