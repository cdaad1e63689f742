use Rattle.std.proofs.Common.{length}
use Rattle.line_rows.proofs.Laws.{ItemsSoFar}
use Rattle.line_rows.proofs.row.items.Given as goal

abbrev pub invariant-loop-left : goal.invariant-loop-left
invariant-loop-left l = ItemsSoFar l.line l.row l.initial.r l.initial.numbers l.initial.bytes l.left l.r l.numbers l.bytes

abbrev pub decreases-loop-left : goal.decreases-loop-left
decreases-loop-left l = length l.left
