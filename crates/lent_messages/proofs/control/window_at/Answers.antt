-- `control::window_at` meets its contract. Assumes nothing.
use Rattle.lent_messages.specs.Words.{window_at}
use Rattle.lent_messages.proofs.control.window_at.Goals as goal

pub returns : goal.returns
unfolding window_at
returns c = rw (c.window_of.ensures, c.channel_start-from.ensures)
