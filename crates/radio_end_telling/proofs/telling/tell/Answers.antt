-- `telling::tell` meets its contract. Assumes nothing.
use mathlib.Core.Path.{sym, ◌∙◌}
use Rattle.std.proofs.lemmas.Result.{err_from_is_err_and}
use Rattle.radio_end_state.proofs.Fit.{fit_facts}
use Rattle.quantity.specs.Limits.{CHANNEL-IDS}
use Rattle.radio_end_telling.proofs.Told.{tell_unfit, tell_wrote, tell_refused}
use Rattle.radio_end_telling.proofs.Settling.{past_change}
use Rattle.radio_end_telling.proofs.telling.tell.Goals as goal

pub returns-then-not-fits : goal.returns-then-not-fits
returns-then-not-fits c = tell_unfit _ _ (sym c.fits.ensures ∙ c.if-not-fits.true) _ c.refused.ensures

pub write-requires : goal.write-requires
write-requires c = let fits = sym c.fits.ensures ∙ c.if-not-fits.false in past_change _ _ _ _ fits (rw c.context-context.ensures (fit_facts _ fits).context) c.count-count.ensures c.no_channel.ensures

pub returns-in_err-size : goal.returns-in_err-size
returns-in_err-size c = let p = err_from_is_err_and c.from_residual.result c.from_residual.ensures.1 in rw (p.1, p.2) (tell_refused _ _ (sym c.fits.ensures ∙ c.if-not-fits.false) CHANNEL-IDS _ c.count-count.ensures _ c.no_channel.ensures _ c.context-context.ensures _ _ c.write.ensures _ c.in_err-size.was)

pub returns : goal.returns
returns c = tell_wrote _ _ (sym c.fits.ensures ∙ c.if-not-fits.false) CHANNEL-IDS _ c.count-count.ensures _ c.no_channel.ensures _ c.context-context.ensures _ _ c.write.ensures _ c.in_ok-size.was
