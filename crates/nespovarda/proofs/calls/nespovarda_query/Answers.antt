-- `calls::nespovarda_query` meets its contract. Assumes nothing.
use Rattle.nespovarda.proofs.Exporting.{exports}
use Rattle.nespovarda.proofs.calls.nespovarda_query.Goals as goal

pub returns : goal.returns
returns c = λ memory. exports (c.query.ensures memory) _ c.of_write.ensures
