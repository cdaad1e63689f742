-- `queries::query` meets its contract. Assumes nothing.
use Rattle.std.proofs.lemmas.Result.{err_from_is_err_and}
use Rattle.ips_words.specs.Words.{state_in}
use Rattle.ips_words_survey.proofs.Finding.{judged_within, judged_outside}
use Rattle.endpoint.proofs.Hearing.{asked_unfit, asked_written}
use Rattle.endpoint.proofs.queries.query.Goals as goal

pub returns-in_err-judge : goal.returns-in_err-judge
returns-in_err-judge c = let p = err_from_is_err_and c.from_residual.result c.from_residual.ensures.1 in asked_unfit _ _ _ (judged_outside (state_in c.args.words.now) c.in_err-judge.ensures).0 (rw (p.1, p.2, (judged_outside (state_in c.args.words.now) c.in_err-judge.ensures).1))

pub write-requires : goal.write-requires
write-requires c = (judged_within (state_in c.args.words.now) c.in_ok-judge.ensures)

pub returns : goal.returns
returns c = asked_written _ _ _ (judged_within (state_in c.args.words.now) c.in_ok-judge.ensures) _ c.write.ensures
