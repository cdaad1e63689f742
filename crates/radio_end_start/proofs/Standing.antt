-- A configuration that starts makes a state within the limits, and the words of a fresh start stand for it. Assumes nothing.
use Prim.Native.Nat.{ℕ, zero, suc, ◌<◌}
use mathlib.Core.Bool.{true}
use mathlib.Core.List.{List, [], ◌∷◌, map}
use mathlib.Core.Path.{◌≡◌, refl, ap}
use native.Mathlib.Omega.{arith}
use lib.ListN.{length, get_or, length-map}
use Rattle.meaning.specs.declared.message.End.TheVariants as ends
use Rattle.writable.specs.Allowed.{instance_allowed, context_allowed}
use Rattle.radio_end_state.specs.declared.channel.Setting.{Setting}
use Rattle.radio_end_state.specs.Channel.{fresh_channel}
use Rattle.radio_end_state.specs.State.{Configuration, no_setting, no_channel, channel_at, fresh_state}
use Rattle.radio_end_state.specs.Limits.{setting_fits, allowance_fits, channel_fits, ids, setting_ids, allowances_fit, configuration_fits, state_fits}
use Rattle.radio_end_state.proofs.UpTo.{up_to_at}
use Rattle.radio_end_state.proofs.Fit.{fit_state}
use Rattle.radio_end_words.specs.Words.{state_in, state_words}
use Rattle.radio_end_words.proofs.Whole.{stands}
use Rattle.radio_end_start.proofs.Beginning.{fitting}

-- the fresh channel at an index is that of the setting there
fresh_at_lem : (ks : List Setting) (i : ℕ) → get_or (map fresh_channel ks) i no_channel ≡ fresh_channel (get_or ks i no_setting)
fresh_at_lem [] i = refl
fresh_at_lem (k ∷ ks) zero = refl
fresh_at_lem (k ∷ ks) (suc i) = fresh_at_lem ks i

fresh_ids : (ks : List Setting) → ids (map fresh_channel ks) ≡ setting_ids ks
unfolding ids setting_ids
fresh_ids [] = refl
fresh_ids (k ∷ ks) = ap (λ (ns : List ℕ). k.id ∷ ns) (fresh_ids ks)

fresh_channel_fits : (k : Setting) → setting_fits k ≡ true → allowance_fits k ≡ true → channel_fits (fresh_channel k) ≡ true
unfolding channel_fits
fresh_channel_fits k e f = rw (e, f)

module _ (k : Configuration) where
  fresh_long : length (fresh_state k).channels ≡ length k.settings
  unfolding fresh_state
  fresh_long = length-map k.settings fresh_channel

  ids_are : ids (fresh_state k).channels ≡ setting_ids k.settings
  unfolding fresh_state
  ids_are = fresh_ids k.settings

  -- no Link Instance and no Context is allowed
  instance_fits : instance_allowed ends.Radio (fresh_state k).instance ≡ true
  unfolding fresh_state
  instance_fits = refl

  context_fits : context_allowed ends.Radio (fresh_state k).context ≡ true
  unfolding fresh_state
  context_fits = refl

  module _ (fits : configuration_fits k ≡ true) (allowed : allowances_fit k.settings ≡ true) where
    each_fits_lem : (i : ℕ) → i < length (fresh_state k).channels → channel_fits (channel_at (fresh_state k) i) ≡ true
    unfolding fresh_state channel_at allowances_fit
    each_fits_lem i h =
        let inside : i < length k.settings = omega (arith, fresh_long) in
        rw (fresh_at_lem k.settings i) (fresh_channel_fits (get_or k.settings i no_setting) ((fitting k fits).each i inside) (up_to_at (λ index. allowance_fits (get_or k.settings index no_setting)) (length k.settings) allowed i inside))

    datalink_fits_lem : (fresh_state k).datalink.0 < 256
    unfolding fresh_state
    datalink_fits_lem = (fitting k fits).datalink

    -- A CONFIGURATION THAT STARTS MAKES A STATE WITHIN THE LIMITS
    pub fresh_fits : state_fits (fresh_state k) ≡ true
    fresh_fits = fit_state (fresh_state k) (record {
      datalink = datalink_fits_lem;
      some = omega (arith, fresh_long, (fitting k fits).some);
      few = omega (arith, fresh_long, (fitting k fits).few);
      instance = instance_fits;
      context = context_fits;
      each = each_fits_lem;
      apart = rw ids_are (fitting k fits).apart;
      primary = rw ids_are (fitting k fits).primary;
    })

  -- THE WORDS OF A FRESH START STAND FOR THE FRESH STATE
  pub fresh_said : state_in (state_words (fresh_state k)) ≡ fresh_state k
  fresh_said = stands (fresh_state k)
