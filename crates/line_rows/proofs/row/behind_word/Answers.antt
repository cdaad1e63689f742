-- `row::behind_word` meets its contract. Assumes nothing.
use Rattle.line_rows.proofs.Laws.{past_short, past_from}
use Rattle.line_rows.proofs.row.behind_word.Goals as goal

pub overflow_sub-result : goal.overflow_sub-result
overflow_sub-result c = past_short c.args.line.now c.args.at c.requires c.beyond-left.ensures

pub returns : goal.returns
returns c = past_from c.args.line.now c.args.at c.requires c.beyond-left.ensures
