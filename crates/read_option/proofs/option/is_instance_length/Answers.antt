-- `option::is_instance_length` meets its contract. Assumes nothing.
use borrow.Author.Tests.{le-leb, lt-leb}
use Rattle.quantity.specs.Limits.{SHORTEST-NAME}
use Rattle.meaning.specs.Kinds.{length_listed}
use Rattle.read_option.proofs.option.is_instance_length.Goals as goal

pub returns-then-n-lt-SHORTEST_NAME : goal.returns-then-n-lt-SHORTEST_NAME
unfolding length_listed
returns-then-n-lt-SHORTEST_NAME c = simp (lt-leb SHORTEST-NAME _ c.if-n-lt-SHORTEST_NAME.true)

pub returns : goal.returns
unfolding length_listed
returns c = simp (le-leb SHORTEST-NAME _ c.if-n-lt-SHORTEST_NAME.false)
