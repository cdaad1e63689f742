-- `start::stores` meets its contract: the law of each turn is `Adding`'s. Assumes nothing.
use native.Mathlib.Omega.{arith}
use Rattle.session_read.proofs.Starting.{adding_start, adding_room, adding_on}
use Rattle.session_read.proofs.start.stores.Goals as goal

pub loop-index-init : goal.loop-index-init
loop-index-init c = adding_start _

pub overflow_add-total-in-loop-index : goal.overflow_add-total-in-loop-index
overflow_add-total-in-loop-index c = omega (arith, adding_room c.loop-index.invariant c.requires c.loop-index-test.true)

pub loop-index-preserved : goal.loop-index-preserved
loop-index-preserved c = adding_on c.loop-index.invariant c.loop-index-test.true
