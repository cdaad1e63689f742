-- `judge` meets its contract: each record is judged once, in order, by its number. Assumes nothing.
use mathlib.Core.Path.{sym, ◌∙◌}
use native.Mathlib.Omega.{arith}
use Rattle.whole_captures.proofs.Walks.{judging_start, judging_refused, judging_on}
use Rattle.whole_captures.proofs.judge.Goals as goal

pub loop-from-init : goal.loop-from-init
loop-from-init c = rw c.held-input.ensures (judging_start _ _)

pub loop-from-preserved : goal.loop-from-preserved
loop-from-preserved c = judging_on c.loop-from.invariant (sym c.record_in.ensures ∙ c.in-Record.is) (omega arith) c.judge.ensures.words

pub returns-in-Refused : goal.returns-in-Refused
returns-in-Refused c = judging_refused c.loop-from.invariant (sym c.record_in.ensures ∙ c.in-Refused.is) c.undecide.ensures
