-- `whole::tables` meets its contract: the three tables, one behind another. Assumes nothing.
use Rattle.message_words.proofs.Saying.{says_then}
use Rattle.message_words.proofs.whole.tables.Goals as goal

pub returns : goal.returns
returns c = says_then c.table-behind.ensures (says_then c.table-further.ensures c.table.ensures)
