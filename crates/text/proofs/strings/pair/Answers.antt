-- `strings::pair` meets its contract: it follows two digits. Assumes nothing.
use Rattle.text.proofs.Hexadecimal.{pair_is}
use Rattle.text.proofs.strings.pair.Goals as goal

pub returns : goal.returns
returns c = pair_is _ _ _ c.follow.ensures
