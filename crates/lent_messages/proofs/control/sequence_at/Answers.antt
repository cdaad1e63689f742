-- `control::sequence_at` meets its contract. Assumes nothing.
use Rattle.lent_messages.specs.Stated.{sequence_of}
use Rattle.lent_messages.specs.Words.{sequence_at}
use Rattle.lent_messages.proofs.control.sequence_at.Goals as goal

pub returns : goal.returns
unfolding sequence_at sequence_of
returns c = rw (c.one_of.ensures, c.channel_start-from.ensures)
