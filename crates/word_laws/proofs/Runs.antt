-- Words that calls reach: readable and within the limits; and no state in words has a sequence of more than 32 bits. Assumes nothing.
use Rattle.std.specs.Prelude.{Ok}
use Prim.Native.Nat.{ℕ, ◌^◌, ◌<◌}
use mathlib.Core.Bool.{Bool, true, false}
use mathlib.Core.List.{List}
use mathlib.Core.Path.{◌≡◌, refl, ap, ◌∙◌}
use native.Mathlib.Omega.{arith}
use lib.ListN.{length}
use Rattle.ips_state.specs.State.{channel_at, blank_state}
use Rattle.ips_state.specs.Memory.{World}
use Rattle.ips_state.specs.Limits.{state_fits}
use Rattle.ips_run.specs.Run.{Call, after_all}
use Rattle.ips_run.specs.Demand.{BytesIn}
use Rattle.ips_run.proofs.Whole.{reached_fits}
use Rattle.ips_calls.specs.Replies.{EndpointReply}
use Rattle.ips_calls.specs.ReadBack.{SequenceWords}
use Rattle.ips_calls.proofs.Ran.{ran_world}
use Rattle.ips_words.specs.Words.{COUNT-WORD, word, slot, channel_in, readable, state_in}
use Rattle.ips_words.proofs.Slots.{spelled_facts}
use Rattle.ips_words.proofs.Whole.{channels_length, channel_at_lem, readable_facts, fit_readable, says, says_nothing}
use Rattle.ips_words_start.specs.Start.{StartedIn, configuration_in}
use Rattle.ips_words_start.proofs.Exactly.{started_leaves}
use Rattle.endpoint.specs.Lent.{Lent, lent}
use Rattle.endpoint.specs.Ran.{RanIn}
use Rattle.endpoint.proofs.Simulating.{ran_in}
use Rattle.endpoint.proofs.Whole.{started_in}

module _ (words : List ℕ) (index : ℕ) (inside : index < length (state_in words).channels) where
  small_said : readable words ≡ true → (channel_at (state_in words) index).sequence.0 < 2 ^ 32
  unfolding channel_in
  small_said e =
      let there : index < word words COUNT-WORD = rw (says words e, channels_length words) at inside in
      rw (says words e, channel_at_lem words index there) (spelled_facts (slot words index) ((readable_facts words e).each index there)).sequence

  none_said : readable words ≡ false → (channel_at (state_in words) index).sequence.0 < 2 ^ 32
  unfolding blank_state
  none_said e = let there : index < length blank_state.channels = rw (says_nothing words e) at inside in absurd (omega (arith, there))

-- "Flow Sequence": 32 bits, in every state that words stand for
pub words_sequences : (words : List ℕ) → SequenceWords (state_in words)
words_sequences words index inside = go (readable words) refl
  where
    go : (b : Bool) → readable words ≡ b → (channel_at (state_in words) index).sequence.0 < 2 ^ 32
    go true e = small_said words index inside e
    go false e = none_said words index inside e

-- WORDS STAY READABLE OVER ANY RUN, and within the limits
module _ {configuration words memory words' memory' : List ℕ} (started : StartedIn configuration words memory (Ok tt) words' memory') where
  pub ran_fits : (cs : List Call) → BytesIn cs → (xs : List EndpointReply) (last : Lent) → RanIn (lent words' memory') cs xs last → state_fits (state_in last.words) ≡ true
  ran_fits cs bytes xs last run =
      let begun = started_leaves configuration words memory started refl in
      ap (λ (w : World). state_fits w.state) (ran_world (ran_in bytes run) ∙ ap (after_all cs) (started_in started))
      ∙ (reached_fits (configuration_in configuration) (rw (begun.configuration_fits_lem, begun.waits_fit_lem)) cs bytes).order.state_fits_lem

  pub ran_readable : (cs : List Call) → BytesIn cs → (xs : List EndpointReply) (last : Lent) → RanIn (lent words' memory') cs xs last → readable last.words ≡ true
  ran_readable cs bytes xs last run = fit_readable last.words (ran_fits cs bytes xs last run)
