use Rattle.std.proofs.Common.{length}
use Rattle.line_rows.proofs.Laws.{RowSoFar, at_start}
use Rattle.line_rows.proofs.row.read_row.Given as goal

abbrev pub invariant-loop-left : goal.invariant-loop-left
invariant-loop-left l = RowSoFar l.line l.row at_start l.initial.numbers l.initial.bytes l.skip l.left l.r l.numbers l.bytes

abbrev pub decreases-loop-left : goal.decreases-loop-left
decreases-loop-left l = length l.left
