-- `calls::nespovarda_pace` meets its contract. Assumes nothing.
use Rattle.nespovarda.proofs.Exporting.{exports}
use Rattle.nespovarda.proofs.calls.nespovarda_pace.Goals as goal

pub returns : goal.returns
returns c = λ memory. exports (c.pace.ensures memory) _ c.of_pace.ensures
