-- `control::head_spelled` meets its contract, test by test. Assumes nothing.
use borrow.Author.Tests.{le-leb, lt-leb}
use Rattle.lent_messages.proofs.Saying.{and_on, and_off}
use Rattle.lent_messages.specs.Layout.{GIVEN}
use Rattle.lent_messages.specs.Words.{head_spelled}
use Rattle.lent_messages.proofs.control.head_spelled.Goals as goal

pub returns-then-words-le-GIVEN : goal.returns-then-words-le-GIVEN
unfolding head_spelled
returns-then-words-le-GIVEN c = and_on _ _ _ _ c.fits.ensures c.if-fits.true (rw (le-leb _ GIVEN c.if-words-le-GIVEN.true))

pub returns-else-words-le-GIVEN : goal.returns-else-words-le-GIVEN
unfolding head_spelled
returns-else-words-le-GIVEN c = and_on _ _ _ _ c.fits.ensures c.if-fits.true (rw (lt-leb _ GIVEN c.if-words-le-GIVEN.false))

pub returns-else-fits : goal.returns-else-fits
unfolding head_spelled
returns-else-fits c = and_off _ _ _ c.fits.ensures c.if-fits.false
