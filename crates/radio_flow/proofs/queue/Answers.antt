-- `queue` meets its contract. Assumes nothing.
use mathlib.Core.Path.{ap}
use Prim.Native.Nat.{ℕ}
use native.Mathlib.Omega.{arith}
use Rattle.quantity.specs.declared.count.ByteCount.{ByteCount}
use Rattle.radio_flow.specs.Granting.{queued_on}
use Rattle.radio_flow.proofs.queue.Goals as goal

pub returns : goal.returns
unfolding queued_on
returns c = ap {B = ByteCount} (λ (n : ℕ). record { 0 = n }) (omega arith)
