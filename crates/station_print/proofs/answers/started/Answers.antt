-- `answers::started` meets its contract: one text. Assumes nothing.
use Rattle.message_words.proofs.Saying.{says_one}
use Rattle.station_print.proofs.answers.started.Goals as goal

pub returns : goal.returns
returns c = says_one c.put.ensures
