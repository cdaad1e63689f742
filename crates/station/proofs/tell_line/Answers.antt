-- `tell_line` meets its contract. Assumes nothing.
use Rattle.station_print.specs.Answers.{TELL, UNCHANGED}
use Rattle.station.proofs.Laws.{calls}
use Rattle.station.proofs.tell_line.Goals as goal

pub returns : goal.returns
returns c = calls TELL UNCHANGED c.tell-answer.ensures c.answered.ensures
