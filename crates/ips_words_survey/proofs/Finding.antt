-- Where a call finds its channel. Assumes nothing.
use Rattle.std.specs.Prelude.{None, Some, Ok, Err}
use Prim.Native.Nat.{ℕ, ◌<◌}
use mathlib.Core.Bool.{Bool, true, false, ◌&&◌, and-false}
use mathlib.Core.List.{List}
use mathlib.Core.Logic.{◌⊎◌, inl, inr}
use mathlib.Core.Path.{◌≡◌, refl, sym, ap, ◌∙◌}
use native.Mathlib.Omega.{arith}
use borrow.Author.Tests.{eq-eqb, ne_eqb}
use lib.Dec.{eqb}
use lib.ListN.{length}
use Rattle.facts.proofs.Tests.{clash}
use Rattle.quantity.specs.declared.refusal.Refusal.{Refusal}
use Rattle.quantity.specs.Refusals.{NO-CHANNEL, OUTSIDE-LIMITS}
use Rattle.meaning.specs.Kinds.{among}
use Rattle.ips_state.specs.State.{State}
use Rattle.ips_state.specs.Limits.{ids, index_of, sizes, state_fits}
use Rattle.ips_words.specs.Words.{COUNT-WORD, word, state_in, readable}
use Rattle.ips_words.proofs.Whole.{channels_length, readable_facts, says, fit_readable}
use Rattle.ips_words_survey.specs.declared.survey.Survey.{Survey}
use Rattle.ips_words_survey.specs.Survey.{surveyed, survey_of, within_limits}
use Rattle.ips_state.specs.Memory.{memory_fits, start_of, World, world_fits, is_configured, index_in, channel_in}
use Rattle.ips_state.proofs.Places.{found, lost}
use Rattle.ips_words_survey.specs.declared.place.Found.{Found}
use Rattle.ips_words_survey.specs.Places.{place_of, Located}

-- ---- what the survey tells of number 19
module _ (s : State) (id : ℕ) where
  pub survey_unfit : None ≡ survey_of s id → state_fits s ≡ false
  unfolding survey_of
  survey_unfit e = go (state_fits s) refl
    where
      go : (b : Bool) → state_fits s ≡ b → b ≡ false
      go true f = clash (cc (rw f at e))
      go false f = refl

  module _ (r : Survey) (is : Some r ≡ survey_of s id) where
    pub survey_fits : state_fits s ≡ true
    unfolding survey_of
    survey_fits = go (state_fits s) refl
      where
        go : (b : Bool) → state_fits s ≡ b → b ≡ true
        go true f = refl
        go false f = clash (cc (rw f at is))

    pub survey_at : r ≡ surveyed s.channels id
    unfolding survey_of
    survey_at = cc (rw survey_fits at is)

module _ (s : State) where
  pub judged_within : {x : Unit {0}} → Ok x ≡ within_limits s → state_fits s ≡ true
  unfolding within_limits
  judged_within e = go (state_fits s) refl
    where
      go : (b : Bool) → state_fits s ≡ b → b ≡ true
      go true f = refl
      go false f = clash (cc (rw f at e))

  pub judged_outside : {refusal : Refusal} → Err refusal ≡ within_limits s → (state_fits s ≡ false) × (refusal ≡ record { number = OUTSIDE-LIMITS; place = 0 })
  unfolding within_limits
  judged_outside {refusal} e = go (state_fits s) refl
    where
      go : (b : Bool) → state_fits s ≡ b → (b ≡ false) × (refusal ≡ record { number = OUTSIDE-LIMITS; place = 0 })
      go true f = clash (cc (rw f at e))
      go false f = (refl, cc (rw f at e))

-- ---- words that were surveyed and fit
module _ (words : List ℕ) (id : ℕ) (r : Survey) (is : Some r ≡ survey_of (state_in words) id) where
  readable_then : readable words ≡ true
  readable_then = fit_readable words (survey_fits (state_in words) id r is)

  pub words_long : COUNT-WORD < length words
  words_long = omega (arith, (readable_facts words readable_then).long)

  pub index_last : word words COUNT-WORD ≡ length (state_in words).channels
  index_last = rw (says words readable_then) (sym (channels_length words))

-- where the survey says that a configured channel's store starts
pub surveyed_start : (s : State) (id : ℕ) → among id (ids s.channels) ≡ true → (surveyed s.channels id).start.0 ≡ start_of s (index_of id (ids s.channels))
unfolding surveyed start_of
surveyed_start s id e = rw e

-- ---- the ways out of `find`
module _ (s : State) (id size : ℕ) where
  pub find_unfit : None ≡ survey_of s id → Err OUTSIDE-LIMITS ≡ place_of s id size
  unfolding place_of
  find_unfit e = rw (survey_unfit s id e)

  module _ (r : Survey) (is : Some r ≡ survey_of s id) where
    total_is : r.total.0 ≡ sizes s.channels
    unfolding surveyed
    total_is = rw (survey_at s id r is)

    index_is : r.index ≡ index_of id (ids s.channels)
    unfolding surveyed
    index_is = rw (survey_at s id r is)

    pub find_long : (r.total.0 ≡ size → ⊥) → Err OUTSIDE-LIMITS ≡ place_of s id size
    unfolding place_of
    find_long other = rw (ne_eqb size (sizes s.channels) (λ e. other (total_is ∙ sym e)), and-false)

    module _ (long : r.total.0 ≡ size) where
      judged : (state_fits s && eqb size (sizes s.channels)) ≡ true
      judged = rw (survey_fits s id r is, eq-eqb size (sizes s.channels) (sym long ∙ total_is))

      pub find_none : r.index ≡ length s.channels → Err NO-CHANNEL ≡ place_of s id size
      unfolding place_of
      find_none last = go (among id (ids s.channels)) refl
        where
          go : (b : Bool) → among id (ids s.channels) ≡ b → Err NO-CHANNEL ≡ place_of s id size
          go true t = absurd (omega (arith, (found s id t).0, index_is))
          go false t = rw (judged, t)

      pub find_at : (r.index ≡ length s.channels → ⊥) → Ok (record { index = r.index; start = r.start.0 }) ≡ place_of s id size
      unfolding place_of
      find_at other = go (among id (ids s.channels)) refl
        where
          go : (b : Bool) → among id (ids s.channels) ≡ b → Ok (record { index = r.index; start = r.start.0 }) ≡ place_of s id size
          go true t = rw (judged, t, index_is, survey_at s id r is, surveyed_start s id t)
          go false t = absurd (other (index_is ∙ lost s id t))

-- ---- what a place that was found says
pub record Finds (w : World) (id : ℕ) (found : Found) : Type 0 where
  pub located : Located w found
  pub named : (channel_in w found.index).setting.id ≡ id
  pub at_index : index_in w id ≡ found.index

pub place_found : (w : World) (id : ℕ) (there : Found) → place_of w.state id (length w.memory) ≡ Ok there → Finds w id there
unfolding place_of memory_fits
place_found w id there e = go (world_fits w) refl (is_configured w id) refl
  where
    go : (fits : Bool) → world_fits w ≡ fits → (known : Bool) → is_configured w id ≡ known → Finds w id there
    go false f known t = clash (cc (rw f at e))
    go true f false t = clash (cc (rw (f, t) at e))
    go true f true t =
        let is : ◌≡◌ {A = Found} (record { index = index_in w id; start = start_of w.state (index_in w id) }) there = cc (rw (f, t) at e) in
        let i : index_in w id ≡ there.index = ap (λ (x : Found). x.index) is in
        let p : start_of w.state (index_in w id) ≡ there.start = ap (λ (x : Found). x.start) is in
        record {
          located = record { fits = f; within = rw i at (found w.state id t).0; starts = sym p ∙ rw i };
          named = rw i at (found w.state id t).1;
          at_index = i;
        }

-- and what a refusal says: 19 outside the limits, 12 within them where no channel has the ID
pub place_refused : (w : World) (id number : ℕ) → place_of w.state id (length w.memory) ≡ Err number
    → ((world_fits w ≡ false) × (number ≡ OUTSIDE-LIMITS)) ⊎ ((world_fits w ≡ true) × (is_configured w id ≡ false) × (number ≡ NO-CHANNEL))
unfolding place_of memory_fits
place_refused w id number e = go (world_fits w) refl (is_configured w id) refl
  where
    go : (fits : Bool) → world_fits w ≡ fits → (known : Bool) → is_configured w id ≡ known
        → ((fits ≡ false) × (number ≡ OUTSIDE-LIMITS)) ⊎ ((fits ≡ true) × (known ≡ false) × (number ≡ NO-CHANNEL))
    go false f known t = let p : OUTSIDE-LIMITS ≡ number = cc (rw f at e) in inl (refl, sym p)
    go true f false t = let p : NO-CHANNEL ≡ number = cc (rw (f, t) at e) in inr (refl, refl, sym p)
    go true f true t = clash (cc (rw (f, t) at e))
