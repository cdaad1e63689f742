-- `survey::judge` meets its contract. Assumes nothing.
use Rattle.ips_words_survey.specs.Survey.{within_limits}
use Rattle.ips_words_survey.proofs.Finding.{survey_unfit, survey_fits}
use Rattle.ips_words_survey.proofs.survey.judge.Goals as goal

pub returns-in-Some : goal.returns-in-Some
unfolding within_limits
returns-in-Some c = rw (survey_fits _ _ _ c.in-Some.ensures)

pub returns-in-None : goal.returns-in-None
unfolding within_limits
returns-in-None c = rw (survey_unfit _ _ c.in-None.ensures)
