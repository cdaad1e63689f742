-- `answers::paced` meets its contract, case by case. Assumes nothing.
use Rattle.message_words.proofs.Saying.{says_one}
use Rattle.session_print.proofs.answers.paced.Goals as goal

pub returns-in-Ok-Quiet : goal.returns-in-Ok-Quiet
returns-in-Ok-Quiet c = rw (c.in-Ok-Quiet.is, rw c.in-Ok-Quiet.is at c.in-Ok-Quiet.field-0-is) (says_one c.put.ensures)

pub returns-in-Ok-Due : goal.returns-in-Ok-Due
returns-in-Ok-Due c = rw (c.in-Ok-Due.is, rw c.in-Ok-Due.is at c.in-Ok-Due.field-0-is) (says_one c.put-in-Ok-Due.ensures)

pub returns-in-Ok-Silent : goal.returns-in-Ok-Silent
returns-in-Ok-Silent c = rw (c.in-Ok-Silent.is, rw c.in-Ok-Silent.is at c.in-Ok-Silent.field-0-is) (says_one c.put-in-Ok-Silent.ensures)

pub returns-in-Ok-DueSilent : goal.returns-in-Ok-DueSilent
returns-in-Ok-DueSilent c = rw (c.in-Ok-DueSilent.is, rw c.in-Ok-DueSilent.is at c.in-Ok-DueSilent.field-0-is) (says_one c.put-in-Ok-DueSilent.ensures)
