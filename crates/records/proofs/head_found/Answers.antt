-- `head_found` meets its contract: too few bytes, or by the order that the head tells. Assumes nothing.
use Rattle.records.specs.Unread.{head_found}
use borrow.Author.Tests.{lt-ltb, le-ltb}
use Rattle.records.proofs.head_found.Goals as goal

pub returns-then-bytes-lt-HEAD : goal.returns-then-bytes-lt-HEAD
unfolding head_found
returns-then-bytes-lt-HEAD c = simp (lt-ltb _ 24 c.if-bytes-lt-HEAD.true) c.short.ensures

pub returns-in-Bad : goal.returns-in-Bad
unfolding head_found
returns-in-Bad c = rw (le-ltb _ 24 c.if-bytes-lt-HEAD.false, ← c.order_of.ensures, c.in-Bad.is)

pub returns-in-Little : goal.returns-in-Little
unfolding head_found
returns-in-Little c = rw (le-ltb _ 24 c.if-bytes-lt-HEAD.false, ← c.order_of.ensures, c.in-Little.is, c.behind.ensures)

pub returns-in-Big : goal.returns-in-Big
unfolding head_found
returns-in-Big c = rw (le-ltb _ 24 c.if-bytes-lt-HEAD.false, ← c.order_of.ensures, c.in-Big.is, c.behind-in-Big.ensures)
