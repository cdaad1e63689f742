-- `laying::put` meets its contract: a text with no room is left out, any other is copied behind the cursor. Assumes nothing.
use native.Mathlib.Omega.{arith}
use Rattle.text.proofs.Writing.{lays_none, lays_copy}
use Rattle.text.proofs.laying.put.Goals as goal

pub returns-then-at-out : goal.returns-then-at-out
returns-then-at-out c = lays_none _ _ _ (omega arith)

pub returns-then-text-out : goal.returns-then-text-out
returns-then-text-out c = lays_none _ _ _ (omega arith)

pub returns : goal.returns
returns c = let copied = c.copy.ensures in lays_copy _ _ _ _ _ (omega arith) copied.count copied.bytes
