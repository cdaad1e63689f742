-- `locate::find` meets its contract. Assumes nothing.
use mathlib.Core.Path.{sym, ◌∙◌}
use Rattle.radio_end_telling.proofs.Settling.{find_unfit, find_at, find_none}
use Rattle.radio_end_telling.proofs.locate.find.Goals as goal

pub returns-then-not-fits : goal.returns-then-not-fits
returns-then-not-fits c = c.refused.ensures ∙ find_unfit _ _ (sym c.fits.ensures ∙ c.if-not-fits.true)

pub returns-then-index-count : goal.returns-then-index-count
returns-then-index-count c = find_at _ _ (sym c.fits.ensures ∙ c.if-not-fits.false) _ _ c.find-index.ensures c.count.ensures c.if-index-count.true

pub returns : goal.returns
returns c = c.refused-2.ensures ∙ find_none _ _ (sym c.fits.ensures ∙ c.if-not-fits.false) _ _ c.find-index.ensures c.count.ensures c.if-index-count.false
