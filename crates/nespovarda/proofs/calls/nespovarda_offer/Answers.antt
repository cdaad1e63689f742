-- `calls::nespovarda_offer` meets its contract. Assumes nothing.
use Rattle.nespovarda.proofs.Exporting.{exports}
use Rattle.nespovarda.proofs.calls.nespovarda_offer.Goals as goal

pub returns : goal.returns
returns c = exports c.offer.ensures _ c.of_offer.ensures
