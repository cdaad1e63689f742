-- `answer_into` meets its contract: `bad`, or the row of the numbers that were read. Assumes nothing.
use native.Mathlib.Omega.{arith}
use mathlib.Core.Path.{sym, ◌∙◌}
use Rattle.text.proofs.Writing.{lays_wrote}
use Rattle.distance_line.proofs.Laws.{answer_as}
use Rattle.distance_line.proofs.answer_into.Goals as goal

pub returns-in_default : goal.returns-in_default
returns-in_default c =
    let read = sym c.read_line.ensures ∙ c.in_default.is in
    answer_as _ read (lays_wrote (omega arith) c.put.ensures)

pub returns : goal.returns
returns c =
    let read = sym c.read_line.ensures ∙ c.in-Some.is in
    answer_as _ read c.put_row.ensures
