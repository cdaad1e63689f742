-- Each way out of number 19. Assumes nothing.
use Prim.Native.Nat.{ℕ, ◌≤◌, ◌<◌}
use mathlib.Core.Bool.{Bool, true, false, and-false}
use mathlib.Core.List.{List}
use mathlib.Core.Path.{◌≡◌, refl}
use native.Mathlib.Omega.{arith}
use borrow.Author.Tests.{eq-eqb, ne_eqb, lt-leb, le-leb, le-ltb, lt-ltb}
use lib.Dec.{eqb, leb}
use lib.ListN.{length}
use Rattle.quantity.specs.Limits.{FEWEST-CHANNELS, MOST-CHANNELS}
use Rattle.radio_end_state.specs.Limits.{configuration_fits}
use Rattle.radio_end_words.specs.Words.{word}
use Rattle.radio_end_start.specs.Start.{CONFIGURATION-HEAD, CONFIGURED-DATALINK, CONFIGURED-COUNT, configuration_length, configuration_of, kinds_spelled, configuration_readable, blank_configuration, configuration_in, walked}
use Rattle.radio_end_start.proofs.Settings.{settings_length}

module _ (w : List ℕ) where
  pub says : configuration_readable w ≡ true → configuration_in w ≡ configuration_of w
  unfolding configuration_in
  says e = rw e

  -- words that say nothing are refused; of others it is asked what they say
  pub unreadable : configuration_readable w ≡ false → false ≡ configuration_fits (configuration_in w)
  unfolding configuration_in blank_configuration configuration_fits
  unreadable e = rw e

  by_reading : configuration_fits (configuration_of w) ≡ false → false ≡ configuration_fits (configuration_in w)
  by_reading f = go (configuration_readable w) refl
    where
      go : (b : Bool) → configuration_readable w ≡ b → false ≡ configuration_fits (configuration_in w)
      go true e = rw (says e, f)
      go false e = unreadable e

  pub settings_counted : length (configuration_of w).settings ≡ word w CONFIGURED-COUNT
  unfolding configuration_of
  settings_counted = settings_length w (word w CONFIGURED-COUNT)

  other_length : (length w ≡ configuration_length (word w CONFIGURED-COUNT) → ⊥) → false ≡ configuration_fits (configuration_in w)
  unfolding configuration_readable
  other_length f =
      let long : eqb (length w) (configuration_length (word w CONFIGURED-COUNT)) ≡ false = ne_eqb _ _ f in
      unreadable (rw long)

  pub in_short : length w < CONFIGURATION-HEAD → false ≡ configuration_fits (configuration_in w)
  in_short h = other_length (λ (e : length w ≡ configuration_length (word w CONFIGURED-COUNT)). omega arith)

  pub in_datalink : 256 ≤ word w CONFIGURED-DATALINK → false ≡ configuration_fits (configuration_in w)
  unfolding configuration_fits configuration_of
  in_datalink h = by_reading (rw (le-ltb (word w CONFIGURED-DATALINK) 256 h))

  module _ (count : ℕ) (is : count ≡ word w CONFIGURED-COUNT) where
    pub in_few : count < FEWEST-CHANNELS → false ≡ configuration_fits (configuration_in w)
    unfolding configuration_fits
    in_few h =
        let few : leb FEWEST-CHANNELS (length (configuration_of w).settings) ≡ false = lt-leb FEWEST-CHANNELS (length (configuration_of w).settings) (omega (arith, settings_counted)) in
        by_reading (rw (few, and-false))

    pub in_many : MOST-CHANNELS < count → false ≡ configuration_fits (configuration_in w)
    unfolding configuration_fits
    in_many h =
        let many : leb (length (configuration_of w).settings) MOST-CHANNELS ≡ false = lt-leb (length (configuration_of w).settings) MOST-CHANNELS (omega (arith, settings_counted)) in
        by_reading (rw (many, and-false, and-false))

    pub in_long : (length w ≡ configuration_length count → ⊥) → false ≡ configuration_fits (configuration_in w)
    in_long f = other_length (λ (e : length w ≡ configuration_length (word w CONFIGURED-COUNT)). f (omega arith))

    pub in_walk : length w ≡ configuration_length count → FEWEST-CHANNELS ≤ count → count ≤ MOST-CHANNELS → word w CONFIGURED-DATALINK < 256 → walked w count ≡ configuration_fits (configuration_in w)
    unfolding configuration_fits configuration_readable configuration_of walked
    in_walk long some few byte = go (kinds_spelled w (word w CONFIGURED-COUNT)) refl
      where
        sized : eqb (length w) (configuration_length (word w CONFIGURED-COUNT)) ≡ true
        sized = eq-eqb (length w) (configuration_length (word w CONFIGURED-COUNT)) (omega arith)

        fewest : leb FEWEST-CHANNELS (length (configuration_of w).settings) ≡ true
        fewest = le-leb FEWEST-CHANNELS (length (configuration_of w).settings) (omega (arith, settings_counted))

        most : leb (length (configuration_of w).settings) MOST-CHANNELS ≡ true
        most = le-leb (length (configuration_of w).settings) MOST-CHANNELS (omega (arith, settings_counted))

        go : (b : Bool) → kinds_spelled w (word w CONFIGURED-COUNT) ≡ b → walked w count ≡ configuration_fits (configuration_in w)
        go true e = rw (is, e, says (rw (sized, e)), lt-ltb (word w CONFIGURED-DATALINK) 256 byte, fewest, most)
        go false e = rw (is, e) (unreadable (rw (sized, e)))
