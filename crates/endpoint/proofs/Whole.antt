-- From a fresh start on words, and any calls on them, to demand 3's sentence. Assumes nothing.
use Rattle.std.specs.Prelude.{Result, Ok}
use Rattle.quantity.specs.declared.refusal.Refusal.{Refusal}
use Prim.Native.Nat.{ℕ, ◌+◌, ◌≤◌, ◌<◌}
use mathlib.Core.Bool.{Bool, true, false}
use mathlib.Core.List.{List}
use mathlib.Core.Logic.{◌↔◌}
use mathlib.Core.Path.{◌≡◌, refl, ap, ◌∙◌}
use lib.ListN.{length}
use lib.Dec.{eqb}
use Rattle.facts.proofs.Tests.{clash}
use Rattle.pacer.specs.declared.PaceAnswer.{PaceAnswer}
use Rattle.ips_state.specs.State.{Configuration}
use Rattle.ips_state.specs.Limits.{waits_fit, configuration_taken}
use Rattle.ips_state.specs.Memory.{memory_fits, World}
use Rattle.ips_run.specs.Run.{Call, pace, after_all, fresh_world}
use Rattle.ips_run.specs.Demand.{BytesIn, reached}
use Rattle.ips_run.specs.Kept.{last_or}
use Rattle.ips_run.specs.Times.{taken_times, due_times, heard_times, times_all}
use Rattle.ips_calls.specs.Pace.{pace_answer, says_due, says_silent}
use Rattle.ips_calls.specs.Replies.{EndpointReply, of_pace}
use Rattle.ips_calls.specs.Start.{stores_of, start_fits_of, starts, Started}
use Rattle.ips_calls.specs.Own.{ServedSimply}
use Rattle.ips_calls.proofs.Ran.{ran_world, start_configured, begins}
use Rattle.ips_calls.proofs.Pacing.{pace_due, pace_silent}
use Rattle.ips_calls.proofs.Own.{started_own}
use Rattle.ips_words.specs.Words.{words_for}
use Rattle.ips_words_start.specs.Start.{configuration_in, starts_in_under, starts_in, begins_in, StartedIn}
use Rattle.ips_words_start.proofs.FreshWords.{configuration_small, fresh_in_words}
use Rattle.endpoint.specs.Lent.{Lent, lent, world_in}
use Rattle.endpoint.specs.Calls.{PerformedIn}
use Rattle.endpoint.specs.Ran.{RanIn}
use Rattle.endpoint.proofs.Simulating.{ran_in}

-- what is lent for the state is as long as the configuration's channels ask
abbrev pub room_in : (configuration words : List ℕ) → Bool
room_in configuration words = eqb (length words) (words_for (length (configuration_in configuration).starts))

starts_is : (configuration words memory : List ℕ) → start_fits_of (configuration_in configuration) (room_in configuration words) memory ≡ starts_in configuration words memory
unfolding start_fits_of starts_in_under stores_of memory_fits
starts_is configuration words memory = refl

module _ {configuration words memory words' memory' : List ℕ} where
  -- the contract of a start on words is the contract of a start
  pub start_in_lem : {answer : Result (Unit {0}) Refusal} → StartedIn configuration words memory answer words' memory'
      → Started (configuration_in configuration) (room_in configuration words) (world_in (lent words memory)) answer (world_in (lent words' memory'))
  start_in_lem {answer} h = go (begins_in configuration words memory) refl
    where
      go : (begins : Bool) → begins_in configuration words memory ≡ begins
          → Started (configuration_in configuration) (room_in configuration words) (world_in (lent words memory)) answer (world_in (lent words' memory'))
      go true f = record {
        answer_is = rw (starts_is configuration words memory) h.answer_is;
        world_is = rw (starts_is configuration words memory, f, h.words_are, h.memory_is, f, fresh_in_words configuration);
      }
      go false f = record { answer_is = rw (starts_is configuration words memory) h.answer_is; world_is = rw (starts_is configuration words memory, f, h.words_are, h.memory_is, f) }

  module _ (begun : StartedIn configuration words memory (Ok tt) words' memory') where
    started_fits : starts (configuration_in configuration) (room_in configuration words) memory ≡ true
    started_fits = rw (starts_is configuration words memory) (go (starts_in configuration words memory) refl (waits_fit (configuration_in configuration)) refl)
      where
        go : (fits : Bool) → starts_in configuration words memory ≡ fits → (waits : Bool) → waits_fit (configuration_in configuration) ≡ waits → begins_in configuration words memory ≡ true
        go true f true l = rw (f, l)
        go true f false l = clash (cc (rw (f, l) at begun.answer_is))
        go false f waits l = clash (cc (rw f at begun.answer_is))

    -- a start that is not refused leaves words and memory that stand for the fresh world
    pub started_in : world_in (lent words' memory') ≡ fresh_world (configuration_in configuration)
    started_in = begins (configuration_in configuration) (room_in configuration words) (world_in (lent words memory)) started_fits (Ok tt) (world_in (lent words' memory')) (start_in_lem begun)

    -- THE STATEMENT: demand 3's sentence, of the code's own outcomes on lent words, with nothing asked of configuration, words and memory
    pub started_own_in : (index : ℕ) → index < length (configuration_in configuration).starts → (cs : List Call) → BytesIn cs → (xs : List EndpointReply) (last : Lent)
        → RanIn (lent words' memory') cs xs last → ServedSimply (configuration_in configuration) index cs xs (world_in last)
    started_own_in index inside cs bytes xs last run =
        started_own (configuration_in configuration) (room_in configuration words) (world_in (lent words memory)) (world_in (lent words' memory')) (start_in_lem begun) index inside
        ((configuration_small configuration).firsts index inside) cs bytes xs (world_in last) (ran_in bytes run)

    -- DUE AND SILENT BY HISTORY, of the code's own outcomes: the pacer asked after any calls on the words that a start left
    module _ (cs : List Call) (bytes : BytesIn cs) (xs : List EndpointReply) (last : Lent) (run : RanIn (lent words' memory') cs xs last)
        (time : ℕ) {answer : Result PaceAnswer Refusal} {l' : Lent} (h : PerformedIn (pace time) last (of_pace answer) l') where
      abbrev k : Configuration
      k = configuration_in configuration

      reached_last : world_in last ≡ reached k cs
      reached_last = ran_world (ran_in bytes run) ∙ ap (after_all cs) started_in

      answer_is : answer ≡ pace_answer time (reached k cs).state
      answer_is = let told : answer ≡ pace_answer time (world_in last).state = cc h.reply_is in told ∙ ap (λ (w : World). pace_answer time w.state) reached_last

      taken : configuration_taken k ≡ true
      taken = start_configured k (room_in configuration words) (world_in (lent words memory)) started_fits

      pub ran_due_in : (says_due answer ≡ true)
          ↔ ((last_or 0 (times_all taken_times cs (fresh_world k)) ≤ time) × (last_or 0 (times_all due_times cs (fresh_world k)) + k.hello ≤ time))
      ran_due_in = rw answer_is (pace_due k taken cs bytes time)

      pub ran_silent_in : (says_silent answer ≡ true)
          ↔ ((last_or 0 (times_all taken_times cs (fresh_world k)) ≤ time) × (last_or 0 (times_all heard_times cs (fresh_world k)) + k.limit ≤ time))
      ran_silent_in = rw answer_is (pace_silent k taken cs bytes time)
