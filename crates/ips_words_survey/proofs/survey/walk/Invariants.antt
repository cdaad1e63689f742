use Rattle.ips_words_survey.proofs.Surveying.{Surveying}
use Rattle.ips_words_survey.proofs.survey.walk.Given as goal

abbrev pub invariant-loop-at : goal.invariant-loop-at
invariant-loop-at l = Surveying l.words l.id l.count l.seen l.total l.index l.start l.at
