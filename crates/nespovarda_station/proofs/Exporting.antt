-- From a call's contract to its export's. Assumes nothing.
use Rattle.std.specs.Prelude.{Result}
use Rattle.quantity.specs.declared.refusal.Refusal.{Refusal}
use Prim.Native.Nat.{ℕ}
use mathlib.Core.List.{List}
use mathlib.Core.Path.{◌≡◌, ap, ◌∙◌}
use Rattle.answer_codes.specs.declared.Answer as codes
use Rattle.answer_codes.specs.Codes.{code_of}
use Rattle.radio_end_state.specs.declared.answer.Answer.{Answer}
use Rattle.radio_end_state.specs.Calls.{After}
use Rattle.radio_end_telling.specs.Left.{Left}
use Rattle.radio_end_start.specs.Start.{StartedIn}
use Rattle.nespovarda_station.specs.Outcomes.{started_as, said_as}
use Rattle.nespovarda_station.specs.Exports.{Exported, StartExported}

pub exports : {after : After} {words words' out' : List ℕ} {answer : Result Answer Refusal} → Left after words answer words' out' → (r : codes.Answer) → r ≡ code_of (said_as answer)
    → Exported after words r words' out'
exports h r e = record { answer_is = e ∙ ap (λ (a : Result Answer Refusal). code_of (said_as a)) h.answer_is; words_are = h.words_are; output_is = h.output_is }

pub start_exports : {configuration words words' : List ℕ} {answer : Result (Unit {0}) Refusal} → StartedIn configuration words answer words' → (r : codes.Answer) → r ≡ code_of (started_as answer)
    → StartExported configuration words r words'
start_exports h r e = record { answer_is = e ∙ ap (λ (a : Result (Unit {0}) Refusal). code_of (started_as a)) h.answer_is; words_are = h.words_are }
