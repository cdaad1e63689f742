use Rattle.line_rows.proofs.Laws.{SpellsSoFar}
use Rattle.line_rows.proofs.word.spells.Given as goal

abbrev pub invariant-loop-byte : goal.invariant-loop-byte
invariant-loop-byte l = SpellsSoFar l.word l.key l.left l.byte-index
