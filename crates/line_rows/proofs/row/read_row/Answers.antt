-- `row::read_row` meets its contract: what is left of the row gives the whole. Assumes nothing.
use Rattle.line_rows.proofs.Laws.{row_on, row_end, reads_all}
use Rattle.line_rows.proofs.row.read_row.Goals as goal

pub loop-left-preserved : goal.loop-left-preserved
loop-left-preserved c = row_on c.loop-left.invariant c.in-len2-up.len_at_least c.item_or_list-r.ensures c.left_out-skip.ensures

pub returns : goal.returns
returns c = reads_all (row_end c.loop-left.invariant c.in_default.len_below) c.all_said.ensures
