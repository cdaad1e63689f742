use Rattle.ips_words_survey.proofs.Judging.{Summing}
use Rattle.ips_words_survey.proofs.limits.well_formed.Given as goal

abbrev pub invariant-loop-at : goal.invariant-loop-at
invariant-loop-at l = Summing l.part l.count l.bytes l.at
