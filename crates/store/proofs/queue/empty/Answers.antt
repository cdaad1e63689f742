-- `queue::empty` meets its contract. Assumes nothing.
use borrow.Author.Rules.{rules}
use Rattle.store.specs.Waiting.{listed, queue_of}
use Rattle.store.proofs.queue.empty.Goals as goal

pub returns : goal.returns
unfolding queue_of listed
returns c = search rules
