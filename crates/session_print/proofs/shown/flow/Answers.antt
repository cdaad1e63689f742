-- `shown::flow` meets its contract, case by case. Assumes nothing.
use Rattle.message_words.proofs.Saying.{says_one}
use Rattle.session_print.proofs.shown.flow.Goals as goal

pub returns-in-Free : goal.returns-in-Free
returns-in-Free c = rw c.in-Free.is (says_one c.put.ensures)

pub returns-in-NoWindow : goal.returns-in-NoWindow
returns-in-NoWindow c = rw c.in-NoWindow.is (says_one c.put-in-NoWindow.ensures)
