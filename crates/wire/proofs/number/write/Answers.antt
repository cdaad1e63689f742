-- `number::write` meets its contract. The loop's invariant: the bytes of what is left, before those already written, are the number's. Assumes nothing.
use Rattle.std.proofs.Common.{◌≡◌, arith}
use Rattle.wire.specs.Numbers.{bytes_of}
use Rattle.wire.proofs.Numbers.{write_turn}
use Rattle.wire.proofs.number.write.Goals as goal

pub loop-i-preserved : goal.loop-i-preserved
loop-i-preserved c =
    let l = c.loop-i in
    write_turn _ l.left l.i l.out _ c.loop-i-test.true (omega arith) l.invariant

pub returns : goal.returns
unfolding bytes_of
returns c =
    let none : c.loop-i.i ≡ 0 = omega arith in
    rw none at c.loop-i.invariant
