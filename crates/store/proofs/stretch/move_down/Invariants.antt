use mathlib.Core.Path.{◌≡◌}
use Prim.Native.Nat.{◌-◌, ◌≤◌}
use lib.ListN.{length, drop}
use Rattle.store.specs.Parts.{pasted}
use Rattle.store.proofs.stretch.move_down.Given as goal

abbrev pub invariant-loop-moved : goal.invariant-loop-moved
invariant-loop-moved l = (l.moved ≤ l.bytes.0) × (l.store ≡ pasted l.initial.store l.to (drop l.from l.initial.store) l.moved) × (length l.store ≡ length l.initial.store)

abbrev pub decreases-loop-moved : goal.decreases-loop-moved
decreases-loop-moved l = l.bytes.0 - l.moved
