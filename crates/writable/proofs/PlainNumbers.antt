-- Number 20's border with 18, in plain numbers: a packet's length is no more than 16 bits can say. Assumes nothing.
use Prim.Native.Nat.{ℕ, ◌≤◌, ◌<◌}
use mathlib.Core.Path.{◌≡◌}
use mathlib.Core.Bool.{false, and-false}
use native.Mathlib.Omega.{arith}
use borrow.Author.Tests.{lt-ltb, le-ltb}
use Rattle.meaning.specs.declared.message.End.{End}
use Rattle.meaning.specs.declared.message.Data.{Data}
use Rattle.writable.specs.Allowed.{data_allowed}

pub long_twenty : (end : End) (m : Data) (n : ℕ) → 65535 < n → data_allowed end m n ≡ false
unfolding data_allowed
long_twenty end m n h = simp (le-ltb n 65536 (omega arith), and-false)

-- any other length is allowed where 0 is
pub long_not_twenty : (end : End) (m : Data) (n : ℕ) → n ≤ 65535 → data_allowed end m n ≡ data_allowed end m 0
unfolding data_allowed
long_not_twenty end m n h = rw (lt-ltb n 65536 (omega arith))
