-- `head::context_said` meets its contract. Assumes nothing.
use Rattle.radio_end_words.specs.Words.{state_of}
use Rattle.radio_end_words.proofs.head.context_said.Goals as goal

pub returns : goal.returns
unfolding state_of
returns c = c.context_of.ensures
