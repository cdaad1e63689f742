-- `table::shortened` meets its contract. Assumes nothing.
use native.Mathlib.Omega.{arith}
use borrow.Author.Tests.{lt-ltb, le-ltb}
use lib.ListN.{length}
use Rattle.line_rows.specs.Tables.{LONGEST-LINE, shortened}
use Rattle.line_rows.proofs.table.shortened.Goals as goal

pub returns-then-line-gt-LONGEST_LINE : goal.returns-then-line-gt-LONGEST_LINE
unfolding shortened
returns-then-line-gt-LONGEST_LINE c = rw (lt-ltb LONGEST-LINE (length c.args.line.now) (omega arith))

pub returns : goal.returns
unfolding shortened
returns c = rw (le-ltb LONGEST-LINE (length c.args.line.now) (omega arith))
