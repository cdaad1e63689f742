-- A line that isn't about a state is answered as its definition says. Assumes nothing.
use mathlib.Core.Bool.{true}
use mathlib.Core.List.{List}
use mathlib.Core.Path.{◌≡◌, sym, ap, ◌∙◌}
use Prim.Native.Nat.{ℕ}
use lib.ListN.{length, take}
use Rattle.facts.proofs.Tests.{clash}
use Rattle.message_words.specs.Saying.{Says}
use Rattle.session_read.specs.declared.line.Line.{Line}
use Rattle.session_read.specs.Lines.{Asks}
use Rattle.session_print.specs.Messages.{message_texts, about_state}
use Rattle.session_print.proofs.Lines.{answers_line}
use Rattle.session.specs.Answers.{Answers}

module _ {lent line : List ℕ} {r : Line} {words' lent' : List ℕ} (k : Asks lent line r words' lent') (most : ℕ) {out : List ℕ} {count : ℕ} {out' : List ℕ} where
  pub answers_state : about_state r.asked ≡ true → Answers (length lent) most line out count out'
  answers_state e = record { message = λ h. let other = sym e ∙ ap about_state k.asked ∙ h in clash (cc) }

  pub answers_message : {datagram : List ℕ} → datagram ≡ take r.bytes lent' → Says out 0 (message_texts most datagram r.asked) count out' → Answers (length lent) most line out count out'
  answers_message e h = record { message = λ z. answers_line k most e h }
