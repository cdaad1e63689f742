-- What is shown of a state, and how many words one asks for. Assumes nothing.
use Rattle.std.specs.Prelude.{Option, None, Some, Result, Ok, Err}
use Rattle.quantity.specs.declared.count.LinkInstanceId.{LinkInstanceId}
use Rattle.meaning.specs.declared.message.ContextBytes.{ContextBytes}
use Prim.Native.Nat.{ℕ, ◌≤◌, ◌<◌}
use mathlib.Core.Bool.{Bool, true, false, and-eq-true_iff}
use mathlib.Core.List.{List}
use mathlib.Core.Path.{◌≡◌, refl, sym, ap, ap₂, ◌∙◌}
use borrow.Author.Tests.{le-leb, lt-leb, eq-eqb}
use lib.ListN.{length, replicate, length-replicate}
use lib.Dec.{eqb}
use Rattle.facts.proofs.Tests.{clash}
use Rattle.quantity.specs.Limits.{FEWEST-CHANNELS, MOST-CHANNELS}
use Rattle.quantity.specs.Refusals.{NO-CHANNEL, OUTSIDE-LIMITS}
use Rattle.meaning.specs.Kinds.{among}
use Rattle.ips_channel.specs.declared.state.Channel.{Channel}
use Rattle.ips_state.specs.State.{State, no_start, channel_at, fresh_of}
use Rattle.ips_state.specs.Limits.{ids, index_of, sizes, state_fits}
use Rattle.ips_state.specs.Memory.{World, memory_fits}
use Rattle.ips_words.specs.Words.{words_for, state_of, state_in}
use Rattle.ips_words_survey.specs.declared.place.Found.{Found}
use Rattle.ips_words_survey.specs.declared.survey.Survey.{Survey}
use Rattle.ips_words_survey.specs.Survey.{surveyed, survey_of}
use Rattle.ips_words_survey.specs.Places.{found_at, place_of}
use Rattle.ips_words_survey.proofs.Finding.{survey_unfit, survey_at, place_found}
use Rattle.endpoint.specs.declared.shown.ChannelShown.{ChannelShown}
use Rattle.endpoint.specs.Calls.{Placed}
use Rattle.endpoint.specs.Shown.{words_needed, channel_of, shown_of, kept_of, pacer_of}
use Rattle.pacer.specs.declared.Pacer.{Pacer}
use Rattle.endpoint.proofs.Placing.{says_so}

-- ---- how many words
pub needs_none : (channels : ℕ) → channels < FEWEST-CHANNELS → 0 ≡ words_needed channels
unfolding words_needed
needs_none channels h = rw (lt-leb FEWEST-CHANNELS channels h)

module _ (channels : ℕ) (some : FEWEST-CHANNELS ≤ channels) where
  pub needs_many : MOST-CHANNELS < channels → 0 ≡ words_needed channels
  unfolding words_needed
  needs_many h = rw (le-leb FEWEST-CHANNELS channels some, lt-leb channels MOST-CHANNELS h)

  pub needs_words : channels ≤ MOST-CHANNELS → words_for channels ≡ words_needed channels
  unfolding words_needed
  needs_words h = rw (le-leb FEWEST-CHANNELS channels some, le-leb channels MOST-CHANNELS h)

-- ---- a channel
-- the length of the memory that a state asks for, as a survey tells it
module _ (s : State) (id : ℕ) where
  pub total_told : (r : Survey) → Some r ≡ survey_of s id → r.total.0 ≡ sizes s.channels
  unfolding surveyed
  total_told r is = rw (survey_at s id r is)

  pub total_none : None ≡ survey_of s id → (total : ℕ) → state_fits s ≡ true → total ≡ sizes s.channels
  total_none is total fits = clash (sym (survey_unfit s id is) ∙ fits)

module _ (words : List ℕ) (id total : ℕ) (is : state_fits (state_in words) ≡ true → total ≡ sizes (state_in words).channels) (place : Result Found ℕ) (found_is : place ≡ place_of (state_in words) id total) where
  abbrev s : State
  s = state_in words

  place_is : place ≡ place_of s id (sizes s.channels)
  unfolding place_of
  place_is = found_is ∙ go (state_fits s) refl
    where
      go : (b : Bool) → state_fits s ≡ b → place_of s id total ≡ place_of s id (sizes s.channels)
      go true f = rw (is f)
      go false f = rw f

  pub channel_placed : (found : Found) → place ≡ Ok found → Placed words found.index
  channel_placed found e =
      let w : World = record { state = s; memory = replicate total 0 } in
      let there : place_of s id (length w.memory) ≡ Ok found = rw (length-replicate {A = ℕ} total 0) (sym found_is ∙ e) in
      let f = (place_found w id found there).located in
      record { fits = ((and-eq-true_iff (state_fits s) (memory_fits s w.memory)).0 f.fits).0; within = f.within }

  pub channel_shown : (same : Result Found ℕ) (c : Channel) → place ≡ same → c ≡ channel_of s same → ◌≡◌ {A = ChannelShown} (record { place = same; channel = c }) (shown_of s id)
  unfolding shown_of
  channel_shown same c e told =
      let p : same ≡ place_of s id (sizes s.channels) = sym e ∙ place_is in
      ap₂ {C = ChannelShown} (λ (x : Result Found ℕ) (y : Channel). record { place = x; channel = y }) p (told ∙ ap (channel_of s) p)

-- "Calls on a state test 19 first", then 12
module _ (s : State) (id : ℕ) where
  pub shown_nineteen : state_fits s ≡ false → shown_of s id ≡ record { place = Err OUTSIDE-LIMITS; channel = fresh_of no_start }
  unfolding shown_of place_of
  shown_nineteen e = rw e

  module _ (fits : state_fits s ≡ true) where
    whole : eqb (sizes s.channels) (sizes s.channels) ≡ true
    whole = eq-eqb (sizes s.channels) (sizes s.channels) refl

    pub shown_twelve : among id (ids s.channels) ≡ false → shown_of s id ≡ record { place = Err NO-CHANNEL; channel = fresh_of no_start }
    unfolding shown_of place_of
    shown_twelve e = rw (fits, whole, e)

    pub shown_channel : among id (ids s.channels) ≡ true
        → shown_of s id ≡ record { place = Ok (found_at s (index_of id (ids s.channels))); channel = channel_at s (index_of id (ids s.channels)) }
    unfolding shown_of place_of
    shown_channel e = rw (fits, whole, e)

-- ---- what is kept
module _ (words : List ℕ) where
  pub kept_unfit : state_fits (state_in words) ≡ false → Err (record { number = OUTSIDE-LIMITS; place = 0 }) ≡ kept_of (state_in words)
  unfolding kept_of
  kept_unfit e = rw e

  pub kept_told : state_fits (state_in words) ≡ true → (link : Option (LinkInstanceId × ℕ)) → link ≡ (state_of words).instance → (last : Option (ContextBytes × ℕ)) → last ≡ (state_of words).context → Ok (record { instance = link; context = last }) ≡ kept_of (state_in words)
  unfolding kept_of
  kept_told e link a last b =
      rw (e, says_so words e (λ (s : State). s.instance) link a, says_so words e (λ (s : State). s.context) last b)

-- ---- the pacer
module _ (words : List ℕ) where
  pub pacer_unfit : state_fits (state_in words) ≡ false → Err (record { number = OUTSIDE-LIMITS; place = 0 }) ≡ pacer_of (state_in words)
  unfolding pacer_of
  pacer_unfit e = rw e

  pub pacer_told : state_fits (state_in words) ≡ true → (pacer : Pacer) → pacer ≡ (state_of words).pacer → Ok pacer ≡ pacer_of (state_in words)
  unfolding pacer_of
  pacer_told e pacer a = rw (e, says_so words e (λ (s : State). s.pacer) pacer a)
