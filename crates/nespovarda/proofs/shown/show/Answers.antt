-- `shown::show` meets its contract. Assumes nothing.
use Rattle.nespovarda.proofs.shown.show.Goals as goal

pub returns : goal.returns
returns c = rw (c.status_tag.ensures, c.status_value.ensures, c.flow_tag.ensures, c.flow_window.ensures, c.wide.ensures, c.wide-2.ensures, c.wide-3.ensures)
