-- `link_line` meets its contract. Assumes nothing.
use Rattle.station_print.specs.Answers.{UNASKED, KEPT}
use Rattle.station.proofs.Laws.{calls}
use Rattle.station.proofs.link_line.Goals as goal

pub returns : goal.returns
returns c = calls UNASKED KEPT c.tell_link-answer.ensures c.answered.ensures
