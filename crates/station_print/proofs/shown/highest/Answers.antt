-- `shown::highest` meets its contract: none heard, or the number. Assumes nothing.
use Rattle.message_words.proofs.Saying.{says_one}
use Rattle.station_print.proofs.shown.highest.Goals as goal

pub returns-in-None : goal.returns-in-None
returns-in-None c = rw c.in-None.is (says_one c.put.ensures)
