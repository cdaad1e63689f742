-- `stated::window_of` meets its contract, by the tag. Assumes nothing.
use Rattle.std.proofs.Common.{rules, ◌<◌}
use borrow.Author.Tests.{ne_eqb}
use Rattle.lent_messages.specs.Layout.{ABSENT, FIELD-EMPTY, HALF}
use Rattle.lent_messages.specs.Stated.{window_of}
use Rattle.lent_messages.proofs.Saying.{fits_field}
use Rattle.lent_messages.proofs.stated.window_of.Goals as goal

pub returns-then-tag-eq-ABSENT : goal.returns-then-tag-eq-ABSENT
unfolding window_of
returns-then-tag-eq-ABSENT c = rw c.if-tag-eq-ABSENT.true

pub returns-then-tag-eq-FIELD_EMPTY : goal.returns-then-tag-eq-FIELD_EMPTY
unfolding window_of
returns-then-tag-eq-FIELD_EMPTY c = rw c.if-tag-eq-FIELD_EMPTY.true

pub overflow_cast-result : goal.overflow_cast-result
overflow_cast-result c = let low : c.args.value < HALF = fits_field c.args.tag c.args.value HALF c.requires c.if-tag-eq-ABSENT.false c.if-tag-eq-FIELD_EMPTY.false in search rules

pub returns : goal.returns
unfolding window_of
returns c = rw (ne_eqb _ ABSENT c.if-tag-eq-ABSENT.false, ne_eqb _ FIELD-EMPTY c.if-tag-eq-FIELD_EMPTY.false)
