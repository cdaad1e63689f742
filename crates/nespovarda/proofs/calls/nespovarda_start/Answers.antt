-- `calls::nespovarda_start` meets its contract. Assumes nothing.
use Rattle.nespovarda.proofs.Exporting.{start_exports}
use Rattle.nespovarda.proofs.calls.nespovarda_start.Goals as goal

pub returns : goal.returns
returns c = start_exports c.start.ensures _ c.of_start.ensures
