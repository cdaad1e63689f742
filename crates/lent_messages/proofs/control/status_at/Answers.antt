-- `control::status_at` meets its contract. Assumes nothing.
use Rattle.lent_messages.specs.Stated.{status_of}
use Rattle.lent_messages.specs.Words.{status_at}
use Rattle.lent_messages.proofs.control.status_at.Goals as goal

pub returns : goal.returns
unfolding status_at status_of
returns c = rw (c.one_of.ensures, c.channel_start-from.ensures)
