use lib.ListN.{drop}
use Rattle.store.specs.Waiting.{waiting}
use Rattle.store.proofs.Turns.{Keeping}
use Rattle.store.proofs.queue.keep.Given as goal

abbrev pub invariant-loop-at : goal.invariant-loop-at
invariant-loop-at l = Keeping l.time (drop l.index (waiting l.queue)) (drop l.at (waiting l.queue)) l.left l.at
