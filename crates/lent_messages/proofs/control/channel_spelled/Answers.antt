-- `control::channel_spelled` meets its contract, test by test. Assumes nothing.
use Rattle.lent_messages.proofs.Saying.{and_on, and_off}
use Rattle.lent_messages.specs.Words.{channel_spelled}
use Rattle.lent_messages.proofs.control.channel_spelled.Goals as goal

pub returns-then-fits-2 : goal.returns-then-fits-2
unfolding channel_spelled
returns-then-fits-2 c = rw (← c.channel_start-from.ensures) (and_on _ _ _ _ c.fits.ensures c.if-fits.true (and_on _ _ _ _ c.fits-then-fits.ensures c.if-fits-2.true c.fits-then-fits-2.ensures))

pub returns-else-fits-2 : goal.returns-else-fits-2
unfolding channel_spelled
returns-else-fits-2 c = rw (← c.channel_start-from.ensures) (and_on _ _ _ _ c.fits.ensures c.if-fits.true (and_off _ _ _ c.fits-then-fits.ensures c.if-fits-2.false))

pub returns-else-fits : goal.returns-else-fits
unfolding channel_spelled
returns-else-fits c = rw (← c.channel_start-from.ensures) (and_off _ _ _ c.fits.ensures c.if-fits.false)
