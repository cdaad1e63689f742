use Rattle.std.proofs.Common.{◌≡◌, ◌++◌, length, drop}
use Rattle.wire.specs.Numbers.{bytes_of}
use Rattle.wire.proofs.number.write.Given as goal

abbrev pub invariant-loop-i : goal.invariant-loop-i
invariant-loop-i l = bytes_of l.i l.left ++ drop l.i l.out ≡ bytes_of (length l.initial.out) l.value
