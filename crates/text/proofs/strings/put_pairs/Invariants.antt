use Rattle.text.proofs.Hexadecimal.{Pairs}
use Rattle.text.proofs.strings.put_pairs.Given as goal

abbrev pub invariant-loop-byte : goal.invariant-loop-byte
invariant-loop-byte l = Pairs l.initial.out l.at l.bytes l.byte-index l.end l.out
