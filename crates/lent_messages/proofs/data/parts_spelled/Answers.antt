-- `data::parts_spelled` meets its contract, test by test. Assumes nothing.
use Rattle.lent_messages.proofs.Saying.{and_on, and_off}
use Rattle.lent_messages.specs.Words.{parts_spelled}
use Rattle.lent_messages.proofs.data.parts_spelled.Goals as goal

pub returns-then-fits-4 : goal.returns-then-fits-4
unfolding parts_spelled
returns-then-fits-4 c = and_on _ _ _ _ c.fits.ensures c.if-fits.true (and_on _ _ _ _ c.fits-then-fits.ensures c.if-fits-2.true (and_on _ _ _ _ c.fits-then-fits-2.ensures c.if-fits-3.true (and_on _ _ _ _ c.fits-then-fits-3.ensures c.if-fits-4.true c.fits-then-fits-4.ensures)))

pub returns-else-fits-4 : goal.returns-else-fits-4
unfolding parts_spelled
returns-else-fits-4 c = and_on _ _ _ _ c.fits.ensures c.if-fits.true (and_on _ _ _ _ c.fits-then-fits.ensures c.if-fits-2.true (and_on _ _ _ _ c.fits-then-fits-2.ensures c.if-fits-3.true (and_off _ _ _ c.fits-then-fits-3.ensures c.if-fits-4.false)))

pub returns-else-fits-3 : goal.returns-else-fits-3
unfolding parts_spelled
returns-else-fits-3 c = and_on _ _ _ _ c.fits.ensures c.if-fits.true (and_on _ _ _ _ c.fits-then-fits.ensures c.if-fits-2.true (and_off _ _ _ c.fits-then-fits-2.ensures c.if-fits-3.false))

pub returns-else-fits-2 : goal.returns-else-fits-2
unfolding parts_spelled
returns-else-fits-2 c = and_on _ _ _ _ c.fits.ensures c.if-fits.true (and_off _ _ _ c.fits-then-fits.ensures c.if-fits-2.false)

pub returns-else-fits : goal.returns-else-fits
unfolding parts_spelled
returns-else-fits c = and_off _ _ _ c.fits.ensures c.if-fits.false
