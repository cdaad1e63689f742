use Rattle.line_rows.proofs.Laws.{ListSoFar}
use Rattle.line_rows.proofs.row.list_turns.Given as goal

abbrev pub invariant-loop-turn : goal.invariant-loop-turn
invariant-loop-turn l = ListSoFar l.line l.count l.row l.initial.r l.initial.numbers l.initial.bytes l._turn l.r l.numbers l.bytes
