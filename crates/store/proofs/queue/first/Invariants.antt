use lib.ListN.{drop}
use Rattle.store.specs.Waiting.{waiting}
use Rattle.store.proofs.Turns.{Seeking}
use Rattle.store.proofs.queue.first.Given as goal

abbrev pub invariant-loop-at : goal.invariant-loop-at
invariant-loop-at l = Seeking l.time (waiting l.queue) (drop l.at (waiting l.queue)) l.start
