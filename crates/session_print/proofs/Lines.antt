-- The answer to a line that isn't about a state, from what was read of it. Assumes nothing.
use mathlib.Core.Path.{◌≡◌, refl, ap, ◌∙◌}
use mathlib.Core.List.{List}
use Prim.Native.Nat.{ℕ, ◌≤◌}
use native.Mathlib.Omega.{arith}
use lib.ListN.{length, take, drop, length-append}
use lib.Seq.{take_at}
use Rattle.message_words.specs.Saying.{Says}
use Rattle.session_read.specs.declared.line.Line.{Line}
use Rattle.session_read.specs.Lines.{said_by, Asks}
use Rattle.session_print.specs.Messages.{message_texts, answer_texts}

module _ {lent line : List ℕ} {r : Line} {words' lent' : List ℕ} (k : Asks lent line r words' lent') where
  abbrev said : List ℕ
  said = (said_by (length lent) line).bytes

  -- the bytes that a line says lie within the lent memory
  pub bytes_within : r.bytes ≤ length lent'
  bytes_within = rw (k.count, k.bytes) (simp length-append (omega arith))

  pub bytes_said : take r.bytes lent' ≡ said
  bytes_said = ap (λ (n : ℕ). take n lent') k.count ∙ ap (λ (l : List ℕ). take (length said) l) k.bytes ∙ take_at said (drop (length said) lent) (length said) refl

  pub answers_line : (most : ℕ) {datagram out : List ℕ} {count : ℕ} {out' : List ℕ} → datagram ≡ take r.bytes lent' → Says out 0 (message_texts most datagram r.asked) count out'
      → Says out 0 (answer_texts (length lent) most line) count out'
  unfolding answer_texts
  answers_line most e h = rw (e ∙ bytes_said, k.asked) at h
