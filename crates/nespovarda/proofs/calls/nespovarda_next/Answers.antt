-- `calls::nespovarda_next` meets its contract. Assumes nothing.
use Rattle.nespovarda.proofs.Exporting.{exports}
use Rattle.nespovarda.proofs.calls.nespovarda_next.Goals as goal

pub returns : goal.returns
returns c = exports c.next.ensures _ c.of_next.ensures
