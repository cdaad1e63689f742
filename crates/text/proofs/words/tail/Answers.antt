-- `words::tail` meets its contract: the line from where the space was found. Assumes nothing.
use Rattle.text.proofs.Spaces.{tail_is}
use Rattle.text.proofs.words.tail.Goals as goal

pub returns : goal.returns
returns c = tail_is _ _ c.find-end.ensures.place
