-- `pair` meets its contract, in either order. Assumes nothing.
use native.Mathlib.Omega.{arith}
use Rattle.records.specs.Heads.{pair_at}
use Rattle.records.proofs.pair.Goals as goal

pub returns-then-big : goal.returns-then-big
unfolding pair_at
returns-then-big c = rw c.if-big.true (omega (arith, c.from_be_bytes.ensures))

pub returns-else-big : goal.returns-else-big
unfolding pair_at
returns-else-big c = rw c.if-big.false (omega (arith, c.from_le_bytes.ensures))
