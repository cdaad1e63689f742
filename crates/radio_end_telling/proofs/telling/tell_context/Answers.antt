-- `telling::tell_context` meets its contract. Assumes nothing.
use mathlib.Core.Path.{sym, ◌∙◌}
use Rattle.radio_end_telling.proofs.Told.{context_unfit, context_unwritable, context_done}
use Rattle.radio_end_telling.proofs.telling.tell_context.Goals as goal

pub returns-then-not-fits : goal.returns-then-not-fits
returns-then-not-fits c = context_unfit _ _ _ _ (sym c.fits.ensures ∙ c.if-not-fits.true) c.refused.ensures

pub returns-then-not-context : goal.returns-then-not-context
returns-then-not-context c = context_unwritable _ _ _ _ (sym c.fits.ensures ∙ c.if-not-fits.false) (sym c.context.ensures ∙ c.if-not-context.true) c.refused-then-not-context.ensures

pub returns : goal.returns
returns c = context_done _ _ _ _ (sym c.fits.ensures ∙ c.if-not-fits.false) (sym c.context.ensures ∙ c.if-not-context.false) _ _ c.context-2.ensures
