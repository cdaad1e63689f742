-- `row::last_number` meets its contract. Assumes nothing.
use native.Mathlib.Omega.{arith}
use Rattle.line_rows.proofs.Laws.{last_none, last_some}
use Rattle.line_rows.proofs.row.last_number.Goals as goal

pub returns-then-count-eq0 : goal.returns-then-count-eq0
returns-then-count-eq0 c = last_none _ _ c.if-count-eq0.true

pub returns : goal.returns
returns c = last_some c.args.numbers.now c.args.count (omega arith) c.requires
