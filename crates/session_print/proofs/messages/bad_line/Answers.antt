-- `messages::bad_line` meets its contract: one text. Assumes nothing.
use Rattle.message_words.proofs.Saying.{says_one}
use Rattle.session_print.proofs.messages.bad_line.Goals as goal

pub returns : goal.returns
returns c = says_one c.put.ensures
