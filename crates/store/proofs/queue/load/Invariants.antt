use Prim.Native.Nat.{◌≤◌}
use lib.ListN.{drop}
use Rattle.store.specs.Waiting.{waiting}
use Rattle.store.proofs.Turns.{Loading}
use Rattle.store.proofs.queue.load.Given as goal

abbrev pub invariant-loop-at : goal.invariant-loop-at
invariant-loop-at l = (l.packets ≤ l.at) × Loading l.time (waiting l.queue) (drop l.at (waiting l.queue)) l.packets l.bytes
