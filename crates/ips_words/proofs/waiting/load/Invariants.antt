use Rattle.ips_words.proofs.Entries.{Loading}
use Rattle.ips_words.proofs.waiting.load.Given as goal

abbrev pub invariant-loop-at : goal.invariant-loop-at
invariant-loop-at l = Loading l.part l.left l.at
