-- `part::paired` meets its contract: the label with the first number, and the second behind a space. Assumes nothing.
use Rattle.message_words.proofs.Saying.{says_then}
use Rattle.message_words.proofs.part.paired.Goals as goal

pub returns : goal.returns
returns c = says_then c.labelled-behind.ensures c.labelled.ensures
