-- `later` meets its contract: a distance of 1 or more is one above 0. Assumes nothing.
use mathlib.Core.Path.{sym, ◌∙◌}
use Rattle.quantity.specs.Distance.{fits_of}
use Rattle.radio_flow.specs.Granting.{is_ahead}
use Rattle.radio_flow.proofs.later.Goals as goal

pub returns-then-fits : goal.returns-then-fits
unfolding fits_of is_ahead
returns-then-fits c = rw (sym c.fits.ensures ∙ c.if-fits.true)

pub returns-else-fits : goal.returns-else-fits
unfolding fits_of is_ahead
returns-else-fits c = rw (sym c.fits.ensures ∙ c.if-fits.false)
