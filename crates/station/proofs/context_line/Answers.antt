-- `context_line` meets its contract. Assumes nothing.
use Rattle.station_print.specs.Answers.{UNASKED, UNCHANGED}
use Rattle.station.proofs.Laws.{calls}
use Rattle.station.proofs.context_line.Goals as goal

pub returns : goal.returns
returns c = calls UNASKED UNCHANGED (rw c.context_said.ensures at c.tell_context-answer.ensures) c.answered.ensures
