-- `control_accepted` meets its contract. Assumes nothing.
use mathlib.Core.Path.{sym, ◌∙◌}
use Rattle.std.proofs.lemmas.Result.{err_from_is_err_and}
use Rattle.radio_end_state.proofs.Fit.{fit_facts}
use Rattle.radio_end_telling.proofs.Settling.{past_change}
use Rattle.radio_end_hearing.proofs.Heard.{control_lacks, control_wrote, control_refused_lem}
use Rattle.radio_end_hearing.proofs.control_accepted.Goals as goal

pub returns-then-not-lacks_none : goal.returns-then-not-lacks_none
returns-then-not-lacks_none c = control_lacks _ _ _ (sym c.lacks_none.ensures ∙ c.if-not-lacks_none.true) _ c.refused.ensures

pub write-requires : goal.write-requires
write-requires c = past_change _ _ _ _ c.requires (rw c.context-context.ensures (fit_facts _ c.requires).context) c.count-count.ensures c.no_channel-nothing.ensures

pub returns : goal.returns
returns c = control_wrote _ _ _ (sym c.lacks_none.ensures ∙ c.if-not-lacks_none.false) _ c.count-count.ensures _ c.no_channel-nothing.ensures _ c.context-context.ensures _ _ c.write.ensures _ c.in_ok-size.was _ c.save_heard.ensures

pub returns-in_err-size : goal.returns-in_err-size
returns-in_err-size c = let p = err_from_is_err_and c.from_residual.result c.from_residual.ensures.1 in rw (p.1, p.2) (control_refused_lem _ _ _ (sym c.lacks_none.ensures ∙ c.if-not-lacks_none.false) _ c.count-count.ensures _ c.no_channel-nothing.ensures _ c.context-context.ensures _ _ c.write.ensures _ c.in_err-size.was)
