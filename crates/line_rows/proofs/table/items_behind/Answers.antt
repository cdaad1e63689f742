-- `table::items_behind` meets its contract: a table with no command has no items. Assumes nothing.
use Rattle.line_rows.proofs.Tables.{items_none, items_some}
use Rattle.line_rows.proofs.table.items_behind.Goals as goal

pub returns-in_default : goal.returns-in_default
returns-in_default c = items_none _ c.in_default.len_below

pub returns-in-len2-up : goal.returns-in-len2-up
returns-in-len2-up c = items_some _ c.first_items.ensures
