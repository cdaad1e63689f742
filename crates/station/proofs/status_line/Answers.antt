-- `status_line` meets its contract. Assumes nothing.
use Rattle.station_print.specs.Answers.{UNASKED, UNCHANGED}
use Rattle.station.proofs.Laws.{calls}
use Rattle.station.proofs.status_line.Goals as goal

pub returns : goal.returns
returns c = calls UNASKED UNCHANGED c.tell_status-answer.ensures c.answered.ensures
