-- `telling::tell_link` meets its contract. Assumes nothing.
use mathlib.Core.Path.{sym, ◌∙◌}
use Rattle.radio_end_telling.proofs.Told.{link_unfit, link_unwritable, link_done}
use Rattle.radio_end_telling.proofs.telling.tell_link.Goals as goal

pub returns-then-not-fits : goal.returns-then-not-fits
returns-then-not-fits c = link_unfit _ _ _ (sym c.fits.ensures ∙ c.if-not-fits.true) c.refused.ensures

pub returns-then-not-instance : goal.returns-then-not-instance
returns-then-not-instance c = link_unwritable _ _ _ (sym c.fits.ensures ∙ c.if-not-fits.false) (sym c.instance.ensures ∙ c.if-not-instance.true) c.refused-then-not-instance.ensures

pub returns : goal.returns
returns c = link_done _ _ (sym c.fits.ensures ∙ c.if-not-fits.false) (sym c.instance.ensures ∙ c.if-not-instance.false) _ c.save_instance.ensures
