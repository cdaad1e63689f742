-- `stated::fits` meets its contract, by the tag. Assumes nothing.
use borrow.Author.Tests.{lt-ltb, le-ltb, eq-eqb, ne_eqb}
use Rattle.lent_messages.specs.Stated.{fits}
use Rattle.lent_messages.proofs.stated.fits.Goals as goal

pub returns-then-tag-given : goal.returns-then-tag-given
unfolding fits
returns-then-tag-given c = rw (lt-ltb c.args.tag c.args.given c.if-tag-given.true)

pub returns-then-tag-given-2 : goal.returns-then-tag-given-2
unfolding fits
returns-then-tag-given-2 c = rw (le-ltb _ _ c.if-tag-given.false, eq-eqb _ _ c.if-tag-given-2.true)

pub returns-else-tag-given-2 : goal.returns-else-tag-given-2
unfolding fits
returns-else-tag-given-2 c = rw (le-ltb _ _ c.if-tag-given.false, ne_eqb _ _ c.if-tag-given-2.false)
