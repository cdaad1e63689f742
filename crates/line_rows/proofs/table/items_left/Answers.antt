-- `table::items_left` meets its contract. Assumes nothing.
use native.Mathlib.Omega.{arith}
use Rattle.line_rows.proofs.Tables.{left_one, left_all}
use Rattle.line_rows.proofs.table.items_left.Goals as goal

pub returns-then-skip-gt0 : goal.returns-then-skip-gt0
returns-then-skip-gt0 c = left_one _ _ (omega arith)

pub returns : goal.returns
returns c = left_all _ _ (omega arith)
