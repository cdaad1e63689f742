-- `calls::nespovarda_radio` meets its contract. Assumes nothing.
use Rattle.nespovarda.proofs.Exporting.{exports}
use Rattle.nespovarda.proofs.calls.nespovarda_radio.Goals as goal

pub returns : goal.returns
returns c = λ memory. exports (c.hand_in.ensures memory) _ c.of_radio.ensures
