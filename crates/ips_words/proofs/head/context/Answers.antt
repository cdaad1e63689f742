-- `head::context` meets its contract. Assumes nothing.
use Rattle.ips_words.specs.Words.{state_of, context_of}
use Rattle.ips_words.proofs.head.context.Goals as goal

pub returns : goal.returns
unfolding state_of context_of
returns c = c.given_of.ensures
