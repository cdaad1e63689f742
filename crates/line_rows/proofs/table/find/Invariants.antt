use Rattle.std.proofs.Common.{◌≡◌, length}
use Rattle.line_rows.specs.Tables.{command_of}
use Rattle.line_rows.proofs.table.find.Given as goal

abbrev pub invariant-loop-left : goal.invariant-loop-left
invariant-loop-left l = command_of l.skip l.name l.left ≡ command_of 0 l.name l.table

abbrev pub decreases-loop-left : goal.decreases-loop-left
decreases-loop-left l = length l.left
