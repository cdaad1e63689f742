-- `number::read` meets its contract. The loop's invariant: the bytes left, behind the number so far, spell the whole. Assumes nothing.
use Rattle.std.proofs.Common.{◌+◌, ◌*◌, ◌^◌, ◌<◌, arith, sym, ap, ◌∙◌, lit<, drop_of_length-le}
use Rattle.wire.specs.Numbers.{number_from}
use Rattle.wire.proofs.Numbers.{more, fits_more, step}
use Rattle.wire.proofs.number.read.Goals as goal

pub overflow_mul-value : goal.overflow_mul-value
overflow_mul-value c =
    let l = c.loop-byte in
    let h : l.value * 256 + 0 < 2 ^ 64 = fits_more {x = 0} c.loop-byte-test.true c.requires l.invariant.0 (lit< tt) in
    record { fits = omega arith }

pub loop-byte-preserved : goal.loop-byte-preserved
loop-byte-preserved c =
    let l = c.loop-byte in
    rw c.from.ensures (more l.byte-index l.invariant.0 (omega (arith, c.type_inv.bytes l.byte-index)), l.invariant.1 ∙ step l.value _ l.byte-index c.loop-byte-test.true)

pub returns-clause-value : goal.returns-clause-value
unfolding number_from
returns-clause-value c =
    let l = c.loop-byte in
    sym (l.invariant.1 ∙ ap (number_from l.value) (drop_of_length-le _ {i = l.byte-index} (omega arith)))
