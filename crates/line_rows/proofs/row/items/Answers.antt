-- `row::items` meets its contract: what is left of the row gives the whole. Assumes nothing.
use Rattle.line_rows.proofs.Laws.{items_on, items_end}
use Rattle.line_rows.proofs.row.items.Goals as goal

pub loop-left-preserved : goal.loop-left-preserved
loop-left-preserved c = items_on c.loop-left.invariant c.in-len2-up.len_at_least c.item-r.ensures

pub returns : goal.returns
returns c = items_end c.loop-left.invariant c.in_default.len_below
