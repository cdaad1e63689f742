-- `radio::hand_in` meets its contract. Assumes nothing.
use mathlib.Core.Path.{refl}
use Rattle.std.proofs.lemmas.Result.{err_from_is_err_and}
use Rattle.ips_words.specs.Words.{state_in}
use Rattle.ips_words_survey.proofs.Finding.{judged_within, judged_outside}
use Rattle.ips_words_query.proofs.Gathering.{said_head}
use Rattle.endpoint.proofs.Hearing.{handed_unfit, handed_earlier, handed_read}
use Rattle.endpoint.proofs.radio.hand_in.Goals as goal

pub returns-in_err-judge : goal.returns-in_err-judge
returns-in_err-judge c = let p = err_from_is_err_and c.from_residual.result c.from_residual.ensures.1 in handed_unfit _ _ _ _ (judged_outside (state_in c.args.words.now) c.in_err-judge.ensures).0 (rw (p.1, p.2, (judged_outside (state_in c.args.words.now) c.in_err-judge.ensures).1))

pub pacer-requires : goal.pacer-requires
pacer-requires c = (said_head _ (judged_within (state_in c.args.words.now) c.in_ok-judge.ensures)).0

pub returns-then-is_earlier : goal.returns-then-is_earlier
returns-then-is_earlier c = handed_earlier _ _ _ _ (judged_within (state_in c.args.words.now) c.in_ok-judge.ensures) _ c.pacer.ensures _ c.is_earlier.ensures c.if-is_earlier.true refl

pub read-requires : goal.read-requires
read-requires c = (judged_within (state_in c.args.words.now) c.in_ok-judge.ensures)

pub returns : goal.returns
returns c = handed_read _ _ _ _ (judged_within (state_in c.args.words.now) c.in_ok-judge.ensures) _ c.pacer.ensures _ c.is_earlier.ensures c.if-is_earlier.false _ c.read.ensures
