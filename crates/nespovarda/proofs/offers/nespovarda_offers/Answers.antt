-- `offers::nespovarda_offers` meets its contract. Assumes nothing.
use Rattle.nespovarda.proofs.Handing.{handful_exports}
use Rattle.nespovarda.proofs.offers.nespovarda_offers.Goals as goal

pub returns : goal.returns
returns c = handful_exports c.offers.ensures _ c.of_handful.ensures
