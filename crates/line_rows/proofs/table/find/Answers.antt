-- `table::find` meets its contract: what is left of the table gives the same command. Assumes nothing.
use Rattle.line_rows.proofs.Tables.{seek_found, seek_on, seek_end}
use Rattle.line_rows.proofs.table.find.Goals as goal

pub returns-then-named : goal.returns-then-named
returns-then-named c = seek_found _ c.args.table.now _ _ c.loop-left.invariant c.in-len2-up.len_at_least c.named.ensures c.if-named.true

pub loop-left-preserved : goal.loop-left-preserved
loop-left-preserved c = seek_on _ c.args.table.now _ _ c.loop-left.invariant c.in-len2-up.len_at_least c.named.ensures c.if-named.false c.items_left-skip.ensures

pub returns : goal.returns
returns c = seek_end _ c.args.table.now _ _ c.loop-left.invariant c.in_default.len_below
