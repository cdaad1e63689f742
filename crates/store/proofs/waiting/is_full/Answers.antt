-- `waiting::is_full` meets its contract. Assumes nothing.
use borrow.Author.Tests.{le-leb, lt-leb}
use Rattle.quantity.specs.Limits.{MOST-WAITING}
use Rattle.store.proofs.waiting.is_full.Goals as goal

pub returns-then-amount-ge-MOST_WAITING : goal.returns-then-amount-ge-MOST_WAITING
returns-then-amount-ge-MOST_WAITING c = rw (le-leb MOST-WAITING _ c.if-amount-ge-MOST_WAITING.true)

pub returns-else-amount-ge-MOST_WAITING : goal.returns-else-amount-ge-MOST_WAITING
returns-else-amount-ge-MOST_WAITING c = rw (lt-leb MOST-WAITING _ c.if-amount-ge-MOST_WAITING.false)
