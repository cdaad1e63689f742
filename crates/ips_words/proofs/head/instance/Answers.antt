-- `head::instance` meets its contract. Assumes nothing.
use Rattle.ips_words.specs.Words.{state_of, instance_of}
use Rattle.ips_words.proofs.head.instance.Goals as goal

pub returns : goal.returns
unfolding state_of instance_of
returns c = c.given_of.ensures
