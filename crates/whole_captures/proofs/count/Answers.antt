-- `count` meets its contract: each record is counted once, in order. Assumes nothing.
use mathlib.Core.Path.{sym, ◌∙◌}
use Rattle.whole_captures.proofs.Walks.{counting_start, counting_on}
use Rattle.whole_captures.proofs.count.Goals as goal

pub loop-from-init : goal.loop-from-init
loop-from-init c = rw c.held-input.ensures (counting_start _ _)

pub loop-from-preserved : goal.loop-from-preserved
loop-from-preserved c = counting_on c.loop-from.invariant (sym c.record_in.ensures ∙ c.in-Record.is) c.count.ensures
