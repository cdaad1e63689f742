-- `count::fits` meets its contract: from 2^31 on the difference counts as negative, and nothing fits. Assumes nothing.
use Rattle.std.proofs.Common.{sym, ◌∙◌, arith, le-ltb}
use Rattle.quantity.proofs.Distance.{fits_ahead, fits_behind}
use Rattle.quantity.proofs.count.fits.Goals as goal

pub returns-then-word-lt-HALF : goal.returns-then-word-lt-HALF
returns-then-word-lt-HALF c = sym (fits_ahead _ _ _ c.ahead-word.ensures _ (omega arith))

pub returns-else-word-lt-HALF : goal.returns-else-word-lt-HALF
returns-else-word-lt-HALF c = le-ltb _ _ c.if-word-lt-HALF.false ∙ sym (fits_behind _ _ _ c.ahead-word.ensures _ (omega arith) (omega arith))
