-- `answers::started` meets its contract: done, or refused. Assumes nothing.
use Rattle.message_words.proofs.Saying.{says_one}
use Rattle.session_print.proofs.answers.started.Goals as goal

pub returns-in-Ok : goal.returns-in-Ok
returns-in-Ok c = rw c.in-Ok.is (says_one c.put.ensures)
