-- `shown::kept` meets its contract. Assumes nothing.
use Rattle.std.proofs.lemmas.Result.{err_from_is_err_and}
use Rattle.ips_words.specs.Words.{state_in}
use Rattle.ips_words_survey.proofs.Finding.{judged_within, judged_outside}
use Rattle.ips_words_query.proofs.Gathering.{said_head}
use Rattle.endpoint.proofs.Showing.{kept_unfit, kept_told}
use Rattle.endpoint.proofs.shown.kept.Goals as goal

pub returns-in_err-judge : goal.returns-in_err-judge
returns-in_err-judge c = let p = err_from_is_err_and c.from_residual.result c.from_residual.ensures.1 in rw (p.1, p.2, (judged_outside (state_in c.args.words.now) c.in_err-judge.ensures).1) (kept_unfit _ (judged_outside (state_in c.args.words.now) c.in_err-judge.ensures).0)

pub instance-requires : goal.instance-requires
instance-requires c = (said_head _ (judged_within (state_in c.args.words.now) c.in_ok-judge.ensures)).0

pub context-requires : goal.context-requires
context-requires c = (said_head _ (judged_within (state_in c.args.words.now) c.in_ok-judge.ensures)).0

pub returns : goal.returns
returns c = kept_told _ (judged_within (state_in c.args.words.now) c.in_ok-judge.ensures) _ c.instance.ensures _ c.context.ensures
