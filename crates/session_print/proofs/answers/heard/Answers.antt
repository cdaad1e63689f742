-- `answers::heard` meets its contract: accepted, due or refused. Assumes nothing.
use Rattle.message_words.proofs.Saying.{says_one}
use Rattle.session_print.proofs.answers.heard.Goals as goal

pub returns-in-Ok-Accepted : goal.returns-in-Ok-Accepted
returns-in-Ok-Accepted c = rw (c.in-Ok-Accepted.is, rw c.in-Ok-Accepted.is at c.in-Ok-Accepted.field-0-is) (says_one c.put.ensures)

pub returns-in-Ok-Due : goal.returns-in-Ok-Due
returns-in-Ok-Due c = rw (c.in-Ok-Due.is, rw c.in-Ok-Due.is at c.in-Ok-Due.field-0-is) (says_one c.put-in-Ok-Due.ensures)
