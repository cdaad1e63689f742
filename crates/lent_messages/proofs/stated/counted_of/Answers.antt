-- `stated::counted_of` meets its contract, by the tag. Assumes nothing.
use Rattle.std.proofs.Common.{rules, ◌<◌}
use borrow.Author.Tests.{ne_eqb}
use Rattle.lent_messages.specs.Layout.{ABSENT, BYTE, HALF}
use Rattle.lent_messages.specs.Stated.{counted_of}
use Rattle.lent_messages.proofs.Saying.{fits_given}
use Rattle.lent_messages.proofs.stated.counted_of.Goals as goal

pub returns-then-tag-eq-ABSENT : goal.returns-then-tag-eq-ABSENT
unfolding counted_of
returns-then-tag-eq-ABSENT c = rw c.if-tag-eq-ABSENT.true

pub overflow_cast-result : goal.overflow_cast-result
overflow_cast-result c = let low : c.args.channel < BYTE = fits_given c.args.tag c.args.channel BYTE (search rules) c.if-tag-eq-ABSENT.false in search rules

pub overflow_cast-result-2 : goal.overflow_cast-result-2
overflow_cast-result-2 c = let low : c.args.sequence < HALF = fits_given c.args.tag c.args.sequence HALF (search rules) c.if-tag-eq-ABSENT.false in search rules

pub returns : goal.returns
unfolding counted_of
returns c = rw (ne_eqb _ ABSENT c.if-tag-eq-ABSENT.false)
