use Rattle.handful.proofs.Summing.{Adding}
use Rattle.handful.proofs.judged.adds_up.Given as goal

abbrev pub invariant-loop-each : goal.invariant-loop-each
invariant-loop-each l = Adding l.lengths l.bytes l.left l.each-index
