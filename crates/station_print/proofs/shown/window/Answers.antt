-- `shown::window` meets its contract, case by case. Assumes nothing.
use Rattle.message_words.proofs.Saying.{says_one}
use Rattle.station_print.proofs.shown.window.Goals as goal

pub returns-in-None : goal.returns-in-None
returns-in-None c = rw c.in-None.is (says_one c.put.ensures)

pub returns-in-Some-Empty : goal.returns-in-Some-Empty
returns-in-Some-Empty c = rw (c.in-Some-Empty.is, rw c.in-Some-Empty.is at c.in-Some-Empty.field-0-is) (says_one c.put-in-Some-Empty.ensures)
