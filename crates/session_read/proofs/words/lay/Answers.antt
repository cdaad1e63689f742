-- `words::lay` meets its contract: a stretch of the numbers is copied. Assumes nothing.
use native.Mathlib.Omega.{arith}
use Rattle.session_read.proofs.Laying.{copied_is}
use Rattle.session_read.proofs.words.lay.Goals as goal

pub returns : goal.returns
returns c = copied_is c.args.n.now _ _ _ _ (omega arith) c.copy_from_slice.ensures.after
