-- `table::read` meets its contract: the row of the first word reads the rest. Assumes nothing.
use Rattle.line_rows.proofs.Tables.{reads_good, reads_bad}
use Rattle.line_rows.proofs.table.read.Goals as goal

pub returns-then-said : goal.returns-then-said
returns-then-said c = reads_good c.args.line.now c.args.table.now c.head.ensures c.find-command.ensures c.items_behind.ensures c.tail.ensures c.read_row-said.ensures c.if-said.true c.key_of.ensures

pub returns : goal.returns
returns c = reads_bad c.args.line.now c.args.table.now c.head.ensures c.find-command.ensures c.items_behind.ensures c.tail.ensures c.read_row-said.ensures c.if-said.false
