use Rattle.ips_words_start.proofs.Judging.{Judging}
use Rattle.ips_words_start.proofs.judge.walk.Given as goal

abbrev pub invariant-loop-at : goal.invariant-loop-at
invariant-loop-at l = Judging l.configuration l.count l.seen l.total l.at
