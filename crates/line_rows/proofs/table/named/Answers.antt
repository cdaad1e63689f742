-- `table::named` meets its contract. Assumes nothing.
use native.Mathlib.Omega.{arith}
use Rattle.line_rows.proofs.Tables.{named_not, named_here}
use Rattle.line_rows.proofs.table.named.Goals as goal

pub returns-then-skip-gt0 : goal.returns-then-skip-gt0
returns-then-skip-gt0 c = named_not _ _ _ (omega arith)

pub returns : goal.returns
returns c = named_here _ _ _ (omega arith) c.spells.ensures
