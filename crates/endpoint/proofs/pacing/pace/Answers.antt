-- `pacing::pace` meets its contract. Assumes nothing.
use mathlib.Core.Path.{refl}
use Rattle.std.proofs.lemmas.Result.{err_from_is_err_and}
use Rattle.ips_words.specs.Words.{state_in}
use Rattle.ips_words_survey.proofs.Finding.{judged_within, judged_outside}
use Rattle.ips_words_query.proofs.Gathering.{said_head}
use Rattle.endpoint.proofs.Hearing.{silent_room, paced_unfit, paced_earlier, paced_answered}
use Rattle.endpoint.proofs.pacing.pace.Goals as goal

pub returns-in_err-judge : goal.returns-in_err-judge
returns-in_err-judge c = let p = err_from_is_err_and c.from_residual.result c.from_residual.ensures.1 in paced_unfit _ _ _ (judged_outside (state_in c.args.words.now) c.in_err-judge.ensures).0 (rw (p.1, p.2, (judged_outside (state_in c.args.words.now) c.in_err-judge.ensures).1))

pub pacer-paced-requires : goal.pacer-paced-requires
pacer-paced-requires c = (said_head _ (judged_within (state_in c.args.words.now) c.in_ok-judge.ensures)).0

pub returns-then-is_earlier : goal.returns-then-is_earlier
returns-then-is_earlier c = paced_earlier _ _ _ (judged_within (state_in c.args.words.now) c.in_ok-judge.ensures) _ c.pacer-paced.ensures _ c.is_earlier.ensures c.if-is_earlier.true refl

pub fall_silent-requires : goal.fall_silent-requires
fall_silent-requires c = (judged_within (state_in c.args.words.now) c.in_ok-judge.ensures)

pub move_pacer-requires : goal.move_pacer-requires
move_pacer-requires c = silent_room c.is_silent-silent.result _ _ (judged_within (state_in c.args.words.now) c.in_ok-judge.ensures) c.fall_silent.ensures

pub returns : goal.returns
returns c = paced_answered _ _ _ (judged_within (state_in c.args.words.now) c.in_ok-judge.ensures) _ c.pacer-paced.ensures _ c.is_earlier.ensures c.if-is_earlier.false _ c.is_due-due.ensures _ c.is_silent-silent.ensures c.answer.ensures _ c.fall_silent.ensures _ c.ask.ensures _ c.move_pacer.ensures
