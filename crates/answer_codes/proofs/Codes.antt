-- No two outcomes have the same numbers: an answer's numbers say the outcome.
use Prim.Native.Nat.{◌+◌, ◌-◌}
use mathlib.Core.Path.{◌≡◌, refl, ap, sym, ◌∙◌}
use mathlib.Core.Bool.{cond}
use mathlib.Core.List.{List, [], ◌∷◌}
use lib.Dec.{eqb, leb}
use borrow.Author.Tests.{le-leb}
use native.Mathlib.Omega.{arith}
use lib.ListN.{get_or}
use Rattle.answer_codes.specs.declared.Answer.{Answer}
use Rattle.answer_codes.specs.Codes.{Outcome, code_of, REFUSED, SENT, WROTE, ANSWERED, UNASKED}
use Rattle.answer_codes.specs.Codes.Outcome.{refused, started, taken, sent, nothing_waiting, not_operational, window_shut, withdrawn, accepted, due, other_plane, wrote, shown, kept, none_there, quiet, query_due, silent, query_due_silent, pacer_shown, answered, unasked, no_message, offered}

-- the outcomes without a number, each at its kind
abbrev plain : List Outcome
plain =
    kept ∷ started ∷ taken ∷ kept ∷ nothing_waiting ∷ not_operational ∷ window_shut ∷ withdrawn ∷ accepted ∷ due ∷ other_plane ∷ kept ∷ shown ∷ kept ∷ none_there
    ∷ quiet ∷ query_due ∷ silent ∷ query_due_silent ∷ pacer_shown ∷ kept ∷ kept ∷ no_message ∷ offered ∷ []

-- the outcome that an answer's numbers say
abbrev pub outcome_of : Answer → Outcome
outcome_of a =
    cond (leb REFUSED a.kind) (refused (a.kind - REFUSED) a.value)
    (cond (eqb a.kind SENT) (sent a.value)
    (cond (eqb a.kind WROTE) (wrote a.value)
    (cond (eqb a.kind ANSWERED) (answered a.value) (cond (eqb a.kind UNASKED) (unasked a.value) (get_or plain a.kind kept)))))

pub outcome_back : (a : Outcome) → outcome_of (code_of a) ≡ a
outcome_back (refused number place) =
    let number_back : (REFUSED + number) - REFUSED ≡ number = omega arith in
    rw (le-leb REFUSED (REFUSED + number) (omega arith), number_back)
outcome_back started = refl
outcome_back taken = refl
outcome_back (sent bytes) = refl
outcome_back nothing_waiting = refl
outcome_back not_operational = refl
outcome_back window_shut = refl
outcome_back withdrawn = refl
outcome_back accepted = refl
outcome_back due = refl
outcome_back other_plane = refl
outcome_back (wrote bytes) = refl
outcome_back shown = refl
outcome_back kept = refl
outcome_back none_there = refl
outcome_back quiet = refl
outcome_back query_due = refl
outcome_back silent = refl
outcome_back query_due_silent = refl
outcome_back pacer_shown = refl
outcome_back (answered bytes) = refl
outcome_back (unasked bytes) = refl
outcome_back no_message = refl
outcome_back offered = refl

pub codes_one : (a b : Outcome) → code_of a ≡ code_of b → a ≡ b
codes_one a b same = sym (outcome_back a) ∙ ap outcome_of same ∙ outcome_back b
