-- `answers::answered` meets its contract, answer by answer. Assumes nothing.
use Rattle.message_words.proofs.Saying.{says_one}
use Rattle.station_print.proofs.answers.answered.Goals as goal

pub returns-in-Ok-Quiet : goal.returns-in-Ok-Quiet
returns-in-Ok-Quiet c = rw (c.in-Ok-Quiet.is, rw c.in-Ok-Quiet.is at c.in-Ok-Quiet.field-0-is) (says_one c.put.ensures)
