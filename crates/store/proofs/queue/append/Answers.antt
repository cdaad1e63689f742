-- `queue::append` meets its contract. Assumes nothing.
use borrow.Author.Rules.{rules}
use Rattle.store.specs.Parts.{appended}
use Rattle.store.proofs.queue.append.Goals as goal

pub returns : goal.returns
unfolding appended
returns c = search rules
