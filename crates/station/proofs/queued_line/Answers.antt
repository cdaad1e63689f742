-- `queued_line` meets its contract. Assumes nothing.
use Rattle.station_print.specs.Answers.{UNASKED, UNCHANGED}
use Rattle.station.proofs.Laws.{calls}
use Rattle.station.proofs.queued_line.Goals as goal

pub returns : goal.returns
returns c = calls UNASKED UNCHANGED c.tell_queued-answer.ensures c.answered.ensures
