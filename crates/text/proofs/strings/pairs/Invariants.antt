use Rattle.text.proofs.Hexadecimal.{Paired}
use Rattle.text.proofs.strings.pairs.Given as goal

abbrev pub invariant-loop-i : goal.invariant-loop-i
invariant-loop-i l = Paired l.word l.i
