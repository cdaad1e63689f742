-- `words::head` meets its contract: the line up to where the space was found. Assumes nothing.
use Rattle.text.proofs.Spaces.{head_is}
use Rattle.text.proofs.words.head.Goals as goal

pub returns : goal.returns
returns c = head_is _ _ c.find-end.ensures.place
