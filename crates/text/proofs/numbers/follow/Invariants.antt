use Rattle.text.proofs.Reading.{Follows}
use Rattle.text.proofs.numbers.follow.Given as goal

abbrev pub invariant-loop-byte : goal.invariant-loop-byte
invariant-loop-byte l = Follows l.base l.most l.digits l.value l.byte-index
