-- `shown::held` meets its contract: the label, and the bytes behind it. Assumes nothing.
use Rattle.message_words.proofs.Saying.{says_one, says_then}
use Rattle.session_print.proofs.shown.held.Goals as goal

pub returns : goal.returns
returns c = says_then (says_one c.put-behind.ensures) (says_one c.put_bytes.ensures)
