-- `handed` meets its contract. Assumes nothing.
use Rattle.records.specs.Reading.{came_by}
use Rattle.records.proofs.handed.Goals as goal

pub returns-in-More : goal.returns-in-More
unfolding came_by
returns-in-More c = rw c.in-More.is

pub returns-in-End : goal.returns-in-End
unfolding came_by
returns-in-End c = rw c.in-End.is

pub returns-in-Head : goal.returns-in-Head
unfolding came_by
returns-in-Head c = rw c.in-Head.is

pub returns-in-Record : goal.returns-in-Record
unfolding came_by
returns-in-Record c = rw c.in-Record.is

pub returns-in-Refused : goal.returns-in-Refused
unfolding came_by
returns-in-Refused c = rw c.in-Refused.is
