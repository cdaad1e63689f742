-- From a start that is made, any sequence of calls: the words stand for what those calls make of the fresh state. Assumes nothing.
use Rattle.std.specs.Prelude.{Ok}
use Prim.Native.Nat.{ℕ}
use mathlib.Core.List.{List, map}
use mathlib.Core.Path.{◌≡◌, refl, ap, ◌∙◌}
use Rattle.radio_end_state.specs.State.{State, fresh_state}
use Rattle.radio_end_run.specs.Run.{Call, states_after, answers_of}
use Rattle.radio_end_words.specs.Words.{state_in}
use Rattle.radio_end_start.specs.Start.{configuration_in, StartedIn}
use Rattle.radio_end_start.proofs.Exactly.{started_leaves}
use Rattle.radio_end.specs.Ran.{Reply, reply_of, RanIn}
use Rattle.radio_end.proofs.Ran.{ran_in}

pub started_ran : {configuration words words' last : List ℕ} {cs : List Call} {xs : List Reply} → StartedIn configuration words (Ok tt) words' → RanIn words' cs xs last
    → (state_in last ≡ states_after cs (fresh_state (configuration_in configuration))) × (xs ≡ map reply_of (answers_of cs (fresh_state (configuration_in configuration))))
started_ran {configuration = configuration} {words = words} {cs = cs} started run =
    let fresh = (started_leaves configuration words started refl).state_is in
    let ran = ran_in run in (
      ran.0 ∙ ap (states_after cs) fresh,
      ran.1 ∙ ap (λ (s : State). map reply_of (answers_of cs s)) fresh,
    )
