-- `row::left_out` meets its contract. Assumes nothing.
use native.Mathlib.Omega.{arith}
use Rattle.line_rows.proofs.Laws.{left_out_on, left_out_many, left_out_none}
use Rattle.line_rows.proofs.row.left_out.Goals as goal

pub returns-then-skip-gt0 : goal.returns-then-skip-gt0
returns-then-skip-gt0 c = left_out_on _ _ _ (omega arith)

pub returns-then-a-eq-LIST : goal.returns-then-a-eq-LIST
returns-then-a-eq-LIST c = left_out_many _ _ _ (omega arith) c.if-a-eq-LIST.true

pub returns : goal.returns
returns c = left_out_none _ _ _ (omega arith) c.if-a-eq-LIST.false
