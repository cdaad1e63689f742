-- `numbers::step` meets its contract: a byte that is no digit, a bound that is passed, and a longer number. Assumes nothing.
use native.Mathlib.Omega.{arith}
use Rattle.text.proofs.Reading.{step_none, step_over, step_on, bound_kept, bound_passed}
use Rattle.text.proofs.numbers.step.Goals as goal

pub returns-then-d-base : goal.returns-then-d-base
returns-then-d-base c = step_none _ _ _ _ (omega arith)

pub returns-then-d-most : goal.returns-then-d-most
returns-then-d-most c = step_over _ _ _ _ (omega arith)

pub returns-then-value-most : goal.returns-then-value-most
returns-then-value-most c =
    let k = bound_passed _ _ _ _ c.requires (omega arith) c.if-value-most.true in
    step_over _ _ _ _ (omega arith)

pub returns : goal.returns
returns c =
    step_on _ _ _ _ _ c.digit-d.ensures (omega arith)
    (bound_kept _ _ _ _ c.requires (omega arith) c.if-value-most.false)
