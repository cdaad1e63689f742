-- `answers::asked` meets its contract, case by case. Assumes nothing.
use Rattle.message_words.proofs.Saying.{says_one}
use Rattle.session_print.proofs.answers.asked.Goals as goal

pub returns-in-Ok-NothingWaiting : goal.returns-in-Ok-NothingWaiting
returns-in-Ok-NothingWaiting c = rw (c.in-Ok-NothingWaiting.is, rw c.in-Ok-NothingWaiting.is at c.in-Ok-NothingWaiting.field-0-is) (says_one c.put.ensures)

pub returns-in-Ok-NotOperational : goal.returns-in-Ok-NotOperational
returns-in-Ok-NotOperational c = rw (c.in-Ok-NotOperational.is, rw c.in-Ok-NotOperational.is at c.in-Ok-NotOperational.field-0-is) (says_one c.put-in-Ok-NotOperational.ensures)

pub returns-in-Ok-WindowShut : goal.returns-in-Ok-WindowShut
returns-in-Ok-WindowShut c = rw (c.in-Ok-WindowShut.is, rw c.in-Ok-WindowShut.is at c.in-Ok-WindowShut.field-0-is) (says_one c.put-in-Ok-WindowShut.ensures)
