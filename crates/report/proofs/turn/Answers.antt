-- `turn` meets its contract, by what came. Assumes nothing.
use Rattle.report.proofs.Serving.{turn_end, turn_refused, turn_record}
use Rattle.report.proofs.turn.Goals as goal

pub returns-in-End : goal.returns-in-End
returns-in-End g c = turn_end c.read_record-came.ensures c.in-End.is

pub returns-in-Record : goal.returns-in-Record
returns-in-Record g c = turn_record c.read_record-came.ensures c.in-Record.is c.count.ensures

pub returns-in-Refused : goal.returns-in-Refused
returns-in-Refused g c = turn_refused c.read_record-came.ensures c.in-Refused.is
