-- `number` meets its contract, in either order. Assumes nothing.
use Prim.Native.Nat.{◌+◌}
use mathlib.Core.Path.{◌≡◌}
use native.Mathlib.Omega.{arith}
use Rattle.records.specs.Heads.{pair_at, number_at}
use Rattle.records.proofs.number.Goals as goal

pub returns-then-big : goal.returns-then-big
unfolding pair_at number_at
returns-then-big c = let last : c.args.at + 2 + 1 ≡ c.args.at + 3 = omega arith in rw (c.if-big.true, last) (omega (arith, c.from_be_bytes.ensures))

pub returns-else-big : goal.returns-else-big
unfolding pair_at number_at
returns-else-big c = let last : c.args.at + 2 + 1 ≡ c.args.at + 3 = omega arith in rw (c.if-big.false, last) (omega (arith, c.from_le_bytes.ensures))
