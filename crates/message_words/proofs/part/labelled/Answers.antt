-- `part::labelled` meets its contract: the label, and the number behind it. Assumes nothing.
use Rattle.message_words.proofs.Saying.{says_one, says_then}
use Rattle.message_words.proofs.part.labelled.Goals as goal

pub returns : goal.returns
returns c = says_then (says_one c.put-behind.ensures) (says_one c.put_number.ensures)
