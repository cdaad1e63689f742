-- `hear_context` meets its contract. Assumes nothing.
use Rattle.ips_words_radio.specs.HeardWords.{context_heard}
use Rattle.ips_words_radio.proofs.hear_context.Goals as goal

pub returns-in_default : goal.returns-in_default
unfolding context_heard
returns-in_default c = rw c.in_default.is

pub returns : goal.returns
unfolding context_heard
returns c = rw (c.in-Some.is, c.wide.ensures)
