-- `answers::bad_line` meets its contract: one text. Assumes nothing.
use Rattle.message_words.proofs.Saying.{says_one}
use Rattle.station_print.proofs.answers.bad_line.Goals as goal

pub returns : goal.returns
returns c = says_one c.put.ensures
