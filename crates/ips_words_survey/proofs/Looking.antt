-- The tests before the pass, and where a pass over words that stand for no state ends. Assumes nothing.
use Prim.Native.Nat.{ℕ, ◌≤◌, ◌<◌}
use mathlib.Core.Bool.{Bool, true, false, cond, and-false}
use mathlib.Core.List.{List}
use mathlib.Core.Path.{◌≡◌, refl, sym, ap, ◌∙◌}
use native.Mathlib.Omega.{arith}
use borrow.Author.Tests.{eq-eqb, ne_eqb}
use lib.ListN.{length}
use Rattle.quantity.specs.Limits.{FEWEST-CHANNELS, MOST-CHANNELS}
use Rattle.ips_state.specs.Limits.{head_fits}
use Rattle.ips_state.proofs.Places.{blank_unfit}
use Rattle.ips_words.specs.Words.{HEAD, COUNT-WORD, words_for, word, state_of, state_in, head_spelled, all_spelled, readable}
use Rattle.ips_words.proofs.Whole.{channels_length, says, says_nothing}
use Rattle.ips_words_survey.specs.Survey.{unfit, walked, survey_of, walked_in}
use Rattle.ips_words_survey.proofs.Walking.{survey_few, survey_many, survey_head, survey_walk}

module _ (words : List ℕ) (id : ℕ) where
  unreadable : readable words ≡ false → unfit ≡ survey_of (state_in words) id
  unfolding survey_of
  unreadable e = rw (says_nothing words e, blank_unfit)

  outside_limits : unfit ≡ survey_of (state_of words) id → unfit ≡ survey_of (state_in words) id
  outside_limits e = go (readable words) refl
    where
      go : (b : Bool) → readable words ≡ b → unfit ≡ survey_of (state_in words) id
      go true r = rw (says words r) e
      go false r = unreadable r

  pub in_short : length words < HEAD → unfit ≡ survey_of (state_in words) id
  unfolding readable
  in_short h = unreadable (rw (ne_eqb (length words) (words_for (word words COUNT-WORD)) (λ e. omega arith)))

  pub in_tags : head_spelled words ≡ false → unfit ≡ survey_of (state_in words) id
  unfolding readable
  in_tags e = unreadable (rw (e, and-false))

  pub in_head : head_fits (state_of words) ≡ false → unfit ≡ survey_of (state_in words) id
  in_head e = outside_limits (survey_head (state_of words) id e)

  module _ (count : ℕ) (is : count ≡ word words COUNT-WORD) where
    channels_are : length (state_of words).channels ≡ count
    channels_are = channels_length words ∙ sym is

    pub in_few : count < FEWEST-CHANNELS → unfit ≡ survey_of (state_in words) id
    in_few h = outside_limits (survey_few (state_of words) id (omega (arith, channels_are)))

    pub in_many : MOST-CHANNELS < count → unfit ≡ survey_of (state_in words) id
    in_many h = outside_limits (survey_many (state_of words) id (omega (arith, channels_are)))

    pub in_long : (length words ≡ words_for count → ⊥) → unfit ≡ survey_of (state_in words) id
    unfolding readable
    in_long f = unreadable (rw (ne_eqb (length words) (words_for (word words COUNT-WORD)) (λ e. f (e ∙ ap words_for (sym is)))))

    module _ (long : length words ≡ words_for count) (some : FEWEST-CHANNELS ≤ count) (few : count ≤ MOST-CHANNELS) (head : head_spelled words ≡ true) (within : head_fits (state_of words) ≡ true) where
      said : readable words ≡ all_spelled words count
      unfolding readable
      said = rw (← is, eq-eqb (length words) (words_for count) long, head)

      pub in_walk : walked_in words count id ≡ survey_of (state_in words) id
      unfolding walked_in
      in_walk = go (all_spelled words count) refl
        where
          go : (b : Bool) → all_spelled words count ≡ b → cond b (walked (state_of words).channels id) unfit ≡ survey_of (state_in words) id
          go true e = rw (says words (said ∙ e)) (survey_walk (state_of words) id (omega (arith, channels_are)) (omega (arith, channels_are)) within)
          go false e = unreadable (said ∙ e)
