-- "Show that any two outcomes allowed by one contract coincide": in numbers and in every lent word and byte. Assumes nothing.
use Prim.Native.Nat.{ℕ}
use mathlib.Core.Bool.{Bool}
use mathlib.Core.List.{List}
use mathlib.Core.Path.{◌≡◌, sym, ◌∙◌}
use Rattle.reader.specs.Readings.{Verdict}
use Rattle.answer_codes.specs.declared.Answer.{Answer}
use Rattle.message_calls.specs.Calls.{Reads, Writes}

pub reads_coincide : {is_taken : Bool} {verdict : Verdict} {said words words' words'' : List ℕ} {answer answer' : Answer} → Reads is_taken verdict said words answer words'
    → Reads is_taken verdict said words answer' words'' → (answer ≡ answer') × (words' ≡ words'')
reads_coincide h k = (h.answers ∙ sym k.answers, h.words_are ∙ sym k.words_are)

pub writes_coincide : {may : Bool} {message out out' out'' : List ℕ} {answer answer' : Answer} → Writes may message out answer out' → Writes may message out answer' out''
    → (answer ≡ answer') × (out' ≡ out'')
writes_coincide h k = (h.answers ∙ sym k.answers, h.bytes_are ∙ sym k.bytes_are)
