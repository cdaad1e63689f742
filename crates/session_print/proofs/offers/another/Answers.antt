-- `offers::another` meets its contract. Assumes nothing.
use Rattle.message_words.proofs.Saying.{says_one, says_then}
use Rattle.session_print.proofs.offers.another.Goals as goal

pub returns : goal.returns
returns c = says_then (says_one c.put-behind.ensures) (rw c.answer_of.ensures at c.offered.ensures)
