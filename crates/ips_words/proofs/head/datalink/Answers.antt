-- `head::datalink` meets its contract. Assumes nothing.
use Rattle.ips_words.specs.Words.{state_of}
use Rattle.ips_words.proofs.head.datalink.Goals as goal

pub returns : goal.returns
unfolding state_of
returns c = rw c.byte.ensures
