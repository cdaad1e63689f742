use Rattle.text.proofs.Hexadecimal.{Unpairs}
use Rattle.text.proofs.strings.unpair.Given as goal

abbrev pub invariant-loop-i : goal.invariant-loop-i
invariant-loop-i l = Unpairs l.word l.initial.out l.i l.out
