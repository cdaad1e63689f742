-- "Show that any two outcomes allowed by one contract coincide": in numbers, output, words and memory. Assumes nothing.
use Prim.Native.Nat.{ℕ}
use mathlib.Core.List.{List}
use mathlib.Core.Path.{◌≡◌, sym, ◌∙◌}
use Rattle.answer_codes.specs.declared.Answer.{Answer}
use Rattle.answer_codes.specs.Codes.{Outcome}
use Rattle.ips_state.specs.State.{State}
use Rattle.ips_run.specs.Run.{Call}
use Rattle.endpoint.specs.Lent.{Lent}
use Rattle.handful.specs.Handful.{Handful}
use Rattle.nespovarda.specs.Exports.{Exported, StartExported}
use Rattle.nespovarda.specs.Handing.{HandfulExported}
use Rattle.nespovarda.specs.Shown.{Shows, ShowsOwn}

pub exports_coincide : {c : Call} {l l' l'' : Lent} {r r' : Answer} {out' out'' : List ℕ} → Exported c l r out' l' → Exported c l r' out'' l'' → (r ≡ r') × (out' ≡ out'') × (l' ≡ l'')
exports_coincide h k = (h.answer_is ∙ sym k.answer_is, h.output_is ∙ sym k.output_is, h.lent_is ∙ sym k.lent_is)

pub exported_starts_coincide : {configuration words memory words' words'' memory' memory'' : List ℕ} {r r' : Answer} → StartExported configuration words memory r words' memory'
    → StartExported configuration words memory r' words'' memory'' → (r ≡ r') × (words' ≡ words'') × (memory' ≡ memory'')
exported_starts_coincide h k = (h.answer_is ∙ sym k.answer_is, h.words_are ∙ sym k.words_are, h.memory_is ∙ sym k.memory_is)

pub exported_handfuls_coincide : {h : Handful} {l l' l'' : Lent} {answers answers' answers'' : List ℕ} {r r' : Answer} → HandfulExported h l answers r l' answers'
    → HandfulExported h l answers r' l'' answers'' → (r ≡ r') × (l' ≡ l'') × (answers' ≡ answers'')
exported_handfuls_coincide h k = (h.answer_is ∙ sym k.answer_is, h.lent_is ∙ sym k.lent_is, h.answers_are ∙ sym k.answers_are)

-- what is shown of a channel and of a waiting packet, what is kept, and the pacer
pub shown_coincide : {s : State} {id : ℕ} {outcome : Outcome} {numbers before after after' : List ℕ} {r r' : Answer} → Shows s id outcome numbers before r after
    → Shows s id outcome numbers before r' after' → (r ≡ r') × (after ≡ after')
shown_coincide h k = (h.answer_is ∙ sym k.answer_is, h.numbers_are ∙ sym k.numbers_are)

pub own_coincide : {s : State} {outcome : Outcome} {numbers before after after' : List ℕ} {r r' : Answer} → ShowsOwn s outcome numbers before r after
    → ShowsOwn s outcome numbers before r' after' → (r ≡ r') × (after ≡ after')
own_coincide h k = (h.answer_is ∙ sym k.answer_is, h.numbers_are ∙ sym k.numbers_are)
