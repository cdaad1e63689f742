-- `allowance` meets its contract: what is left of the watermark, and of the throughput what the queue leaves of it. Assumes nothing.
use mathlib.Core.Path.{ap}
use Prim.Native.Nat.{ℕ}
use native.Mathlib.Omega.{arith}
use Rattle.quantity.specs.declared.count.ByteCount.{ByteCount}
use Rattle.radio_flow.specs.Granting.{allowance_of}
use Rattle.radio_flow.proofs.allowance.Goals as goal

pub returns : goal.returns
unfolding allowance_of
returns c = ap {B = ByteCount} (λ (n : ℕ). record { 0 = n }) (omega arith)
