-- Each way out of the survey. Assumes nothing.
use Prim.Native.Nat.{ℕ, ◌+◌, ◌*◌, ◌≤◌, ◌<◌}
use mathlib.Core.Bool.{Bool, true, false, and-false}
use mathlib.Core.List.{List}
use mathlib.Core.Path.{◌≡◌, refl}
use native.Mathlib.Omega.{arith}
use borrow.Author.Tests.{eq-eqb, ne_eqb, lt-leb, le-leb, le-ltb, lt-ltb}
use lib.Dec.{eqb, leb}
use lib.ListN.{length}
use Rattle.facts.proofs.Tables.{length_tabulate}
use Rattle.quantity.specs.Limits.{FEWEST-CHANNELS, MOST-CHANNELS}
use Rattle.radio_end_state.specs.Limits.{datalink_fits, names_fit, state_fits}
use Rattle.radio_end_words.specs.Words.{HEAD, SLOT, COUNT-WORD, DATALINK-WORD, words_for, word, slot, channel_in, state_of, head_spelled, all_spelled, readable, state_in}
use Rattle.radio_end_words.proofs.Whole.{says, says_nothing, blank_unfit}
use Rattle.radio_end_survey.proofs.Walking.{walked}

module _ (words : List ℕ) where
  -- unreadable words stand for a state that 19 refuses; of readable ones it is asked what they say
  unreadable : readable words ≡ false → false ≡ state_fits (state_in words)
  unreadable e = rw (says_nothing words e, blank_unfit)

  by_reading : state_fits (state_of words) ≡ false → false ≡ state_fits (state_in words)
  by_reading f = go (readable words) refl
    where
      go : (b : Bool) → readable words ≡ b → false ≡ state_fits (state_in words)
      go true e = rw (says words e, f)
      go false e = unreadable e

  channels_counted : length (state_of words).channels ≡ word words COUNT-WORD
  unfolding state_of
  channels_counted = length_tabulate (word words COUNT-WORD) (λ index. channel_in (slot words index))

  byte_is : word words DATALINK-WORD < 256 → datalink_fits (state_of words).datalink ≡ true
  unfolding state_of
  byte_is h = lt-ltb (word words DATALINK-WORD) 256 h

  pub in_short : length words < HEAD → false ≡ state_fits (state_in words)
  unfolding readable
  in_short h =
      let long : eqb (length words) (words_for (word words COUNT-WORD)) ≡ false = ne_eqb _ _ (λ (e : length words ≡ words_for (word words COUNT-WORD)). omega arith) in
      unreadable (rw long)

  module _ (count : ℕ) (is : count ≡ word words COUNT-WORD) where
    pub in_few : count < FEWEST-CHANNELS → false ≡ state_fits (state_in words)
    unfolding state_fits
    in_few h =
        let few : leb FEWEST-CHANNELS (length (state_of words).channels) ≡ false = lt-leb FEWEST-CHANNELS (length (state_of words).channels) (omega (arith, channels_counted)) in
        by_reading (rw (few, and-false))

    pub in_many : MOST-CHANNELS < count → false ≡ state_fits (state_in words)
    unfolding state_fits
    in_many h =
        let many : leb (length (state_of words).channels) MOST-CHANNELS ≡ false = lt-leb (length (state_of words).channels) MOST-CHANNELS (omega (arith, channels_counted)) in
        by_reading (rw (many, and-false, and-false))

    pub in_long : (length words ≡ HEAD + SLOT * count → ⊥) → false ≡ state_fits (state_in words)
    unfolding readable
    in_long h =
        let long : eqb (length words) (words_for (word words COUNT-WORD)) ≡ false = ne_eqb _ _ (λ (e : length words ≡ words_for (word words COUNT-WORD)). h (omega arith)) in
        unreadable (rw long)

    pub in_walk : length words ≡ HEAD + SLOT * count → FEWEST-CHANNELS ≤ count → count ≤ MOST-CHANNELS → word words DATALINK-WORD < 256 → head_spelled words ≡ true → names_fit (state_of words) ≡ true
        → walked words count ≡ state_fits (state_in words)
    unfolding state_fits readable
    in_walk long some few byte head names = go (all_spelled words (word words COUNT-WORD)) refl
      where
        sized : eqb (length words) (words_for (word words COUNT-WORD)) ≡ true
        sized = eq-eqb (length words) (words_for (word words COUNT-WORD)) (omega arith)

        fewest : leb FEWEST-CHANNELS (length (state_of words).channels) ≡ true
        fewest = le-leb FEWEST-CHANNELS (length (state_of words).channels) (omega (arith, channels_counted))

        most : leb (length (state_of words).channels) MOST-CHANNELS ≡ true
        most = le-leb (length (state_of words).channels) MOST-CHANNELS (omega (arith, channels_counted))

        go : (b : Bool) → all_spelled words (word words COUNT-WORD) ≡ b → walked words count ≡ state_fits (state_in words)
        go true e = rw (is, e, says words (rw (sized, head, e)), byte_is byte, fewest, most, names)
        go false e = rw (is, e) (unreadable (rw (sized, head, e)))

  pub in_datalink : 256 ≤ word words DATALINK-WORD → false ≡ state_fits (state_in words)
  unfolding state_fits state_of
  in_datalink h = by_reading (rw (le-ltb (word words DATALINK-WORD) 256 h))

  pub in_head : head_spelled words ≡ false → false ≡ state_fits (state_in words)
  unfolding readable
  in_head e = unreadable (rw (e, and-false))

  pub in_names : names_fit (state_of words) ≡ false → false ≡ state_fits (state_in words)
  unfolding state_fits
  in_names e = by_reading (rw (e, and-false, and-false))
