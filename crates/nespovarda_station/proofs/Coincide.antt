-- Any two outcomes allowed by one contract coincide: in numbers, output and words. Assumes nothing.
use Prim.Native.Nat.{ℕ}
use mathlib.Core.List.{List}
use mathlib.Core.Path.{◌≡◌, sym, ◌∙◌}
use Rattle.answer_codes.specs.declared.Answer.{Answer}
use Rattle.radio_end_state.specs.State.{State}
use Rattle.radio_end_state.specs.Calls.{After}
use Rattle.nespovarda_station.specs.Exports.{Exported, StartExported}
use Rattle.nespovarda_station.specs.Shown.{ShowsChannel}

pub exports_coincide : {after : After} {words words' words'' out' out'' : List ℕ} {r r' : Answer} → Exported after words r words' out' → Exported after words r' words'' out''
    → (r ≡ r') × (words' ≡ words'') × (out' ≡ out'')
exports_coincide h k = (h.answer_is ∙ sym k.answer_is, h.words_are ∙ sym k.words_are, h.output_is ∙ sym k.output_is)

pub exported_starts_coincide : {configuration words words' words'' : List ℕ} {r r' : Answer} → StartExported configuration words r words' → StartExported configuration words r' words''
    → (r ≡ r') × (words' ≡ words'')
exported_starts_coincide h k = (h.answer_is ∙ sym k.answer_is, h.words_are ∙ sym k.words_are)

pub shown_coincide : {s : State} {id : ℕ} {before after after' : List ℕ} {r r' : Answer} → ShowsChannel s id before r after → ShowsChannel s id before r' after'
    → (r ≡ r') × (after ≡ after')
shown_coincide h k = (h.answer_is ∙ sym k.answer_is, h.numbers_are ∙ sym k.numbers_are)
