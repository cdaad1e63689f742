-- `numbers::follow` meets its contract: at each turn what is left to follow gives the same as the whole. Assumes nothing.
use native.Mathlib.Omega.{arith}
use mathlib.Core.Path.{sym, ◌∙◌}
use Rattle.text.proofs.Reading.{follow_on, follow_bad, follow_end}
use Rattle.text.proofs.numbers.follow.Goals as goal

pub returns-in_err-value : goal.returns-in_err-value
returns-in_err-value c = c.from_residual.ensures ∙ follow_bad c.loop-byte.invariant (omega arith) (sym c.step.ensures ∙ c.in_err-value.was)

pub loop-byte-preserved : goal.loop-byte-preserved
loop-byte-preserved c = follow_on c.loop-byte.invariant (omega arith) (sym c.step.ensures ∙ c.in_ok-value.was)

pub returns : goal.returns
returns c = follow_end c.loop-byte.invariant (omega arith)
