-- `hear_line` meets its contract. Assumes nothing.
use Rattle.station_print.specs.Answers.{ANSWER, HEARD}
use Rattle.station.proofs.Laws.{calls}
use Rattle.station.proofs.hear_line.Goals as goal

pub returns : goal.returns
returns c = calls ANSWER HEARD c.hear-answer.ensures c.answered.ensures
