-- `shown::show_kept` meets its contract. Assumes nothing.
use Rattle.nespovarda.proofs.shown.show_kept.Goals as goal

pub returns : goal.returns
returns c = rw (c.instance-given.ensures, c.context-before.ensures)
