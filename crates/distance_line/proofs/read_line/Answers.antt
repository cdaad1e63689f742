-- `read_line` meets its contract, at each way out. Assumes nothing.
use native.Mathlib.Omega.{arith}
use mathlib.Core.Path.{ap, ◌∙◌}
use Rattle.text.specs.Words.{word_of, beyond_of}
use Rattle.text.proofs.Bounds.{parse_most}
use Rattle.distance_line.proofs.Laws.{parsed, read_bad, read_bad_2, read_more, read_numbers}
use Rattle.distance_line.proofs.read_line.Goals as goal

pub returns-in_err-sequence : goal.returns-in_err-sequence
returns-in_err-sequence c = c.from_residual.ensures ∙ read_bad _ (parsed _ c.parse.ensures c.head.ensures c.in_err-sequence.was)

pub returns-in_err-window : goal.returns-in_err-window
returns-in_err-window c =
    c.from_residual-in_err-window.ensures
    ∙ read_bad_2 _ (parsed _ c.parse.ensures c.head.ensures c.in_ok-sequence.was) (parsed _ c.parse-2.ensures (c.word.ensures ∙ ap word_of c.tail-rest.ensures) c.in_err-window.was)

pub returns-then-beyond-gt0 : goal.returns-then-beyond-gt0
returns-then-beyond-gt0 c =
    read_more _ (parsed _ c.parse.ensures c.head.ensures c.in_ok-sequence.was) (parsed _ c.parse-2.ensures (c.word.ensures ∙ ap word_of c.tail-rest.ensures) c.in_ok-window.was) _
    (c.beyond.ensures ∙ ap beyond_of c.tail-rest.ensures) (omega arith)

pub overflow_cast-result : goal.overflow_cast-result
overflow_cast-result c = record { fits = omega (arith, parse_most _ _ (parsed _ c.parse.ensures c.head.ensures c.in_ok-sequence.was)) }

pub overflow_cast-result-2 : goal.overflow_cast-result-2
overflow_cast-result-2 c = record { fits = omega (arith, parse_most _ _ (parsed _ c.parse-2.ensures (c.word.ensures ∙ ap word_of c.tail-rest.ensures) c.in_ok-window.was)) }

pub returns : goal.returns
returns c =
    read_numbers _ (parsed _ c.parse.ensures c.head.ensures c.in_ok-sequence.was) (parsed _ c.parse-2.ensures (c.word.ensures ∙ ap word_of c.tail-rest.ensures) c.in_ok-window.was) _
    (c.beyond.ensures ∙ ap beyond_of c.tail-rest.ensures) (omega arith)
