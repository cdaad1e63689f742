-- `row::list` meets its contract: behind a bad word the list says nothing more. Assumes nothing.
use borrow.Author.Rules.{rules}
use borrow.Author.Tests.{not-true}
use Rattle.line_rows.proofs.Laws.{list_stopped}
use Rattle.line_rows.proofs.row.list.Goals as goal

pub returns-then-not-s : goal.returns-then-not-s
returns-then-not-s c = search (list_stopped, not-true, rules)
