-- `laying::put_signed` meets its contract, by the sign of the number. Assumes nothing.
use mathlib.Core.Bool.{true, false}
use Rattle.text.proofs.Writing.{lays_as}
use Rattle.text.proofs.Signs.{signed_is}
use Rattle.text.proofs.laying.put_signed.Goals as goal

pub returns-then-value-ge0 : goal.returns-then-value-ge0
returns-then-value-ge0 c = lays_as (signed_is _ _ true c.ranges.value c.unsigned_abs-size.ensures.value c.if-value-ge0.true) c.put_number.ensures

pub returns : goal.returns
returns c = lays_as (signed_is _ _ false c.ranges.value c.unsigned_abs-size.ensures.value c.if-value-ge0.false) c.put_negative.ensures
