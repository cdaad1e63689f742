-- `calls::nespovarda_withdraw` meets its contract. Assumes nothing.
use Rattle.nespovarda.proofs.Exporting.{exports}
use Rattle.nespovarda.proofs.calls.nespovarda_withdraw.Goals as goal

pub returns : goal.returns
returns c = exports c.withdraw.ensures _ c.of_withdraw.ensures
