-- `laying::put_negative` meets its contract: the digits stand behind a `-`, and are at most 20. Assumes nothing.
use Prim.Native.Nat.{◌+◌, ◌≤◌}
use native.Mathlib.Omega.{arith}
use mathlib.Core.Path.{sym}
use lib.ListN.{length}
use lib.Seq.{length-take-le}
use Rattle.text.specs.Laying.{decimal_text}
use Rattle.text.proofs.Decimals.{decimal_most}
use Rattle.text.proofs.Writing.{lays_as, lays_inside, lays_front}
use Rattle.text.proofs.laying.put_negative.Goals as goal

pub slice_bounds-text-end : goal.slice_bounds-text-end
slice_bounds-text-end c = lays_inside (omega arith) c.put_number-n.ensures

pub slice_bounds-put-end : goal.slice_bounds-put-end
slice_bounds-put-end c = sym (length-take-le _ _ ((lays_inside (omega arith) c.put_number-n.ensures)))

pub returns : goal.returns
returns c = lays_as (lays_front ((let the_room : 1 + length (decimal_text c.args.value) ≤ 21 = omega (arith, decimal_most c.args.value 20 (omega arith) (omega arith) (omega arith)) in the_room)) c.put_number-n.ensures) c.put.ensures
