-- `window_cell` gives the window back, case by case. Assumes nothing.
use Rattle.read_control.proofs.window_cell.Goals as goal

pub returns-in-None : goal.returns-in-None
returns-in-None c = rw c.in-None.is

pub returns-in-Some-Empty : goal.returns-in-Some-Empty
returns-in-Some-Empty c = rw (c.in-Some-Empty.is, rw c.in-Some-Empty.is at c.in-Some-Empty.field-0-is)

pub returns-in-Some-Given : goal.returns-in-Some-Given
returns-in-Some-Given c = rw (c.in-Some-Given.is, rw c.in-Some-Given.is at c.in-Some-Given.field-0-is)
