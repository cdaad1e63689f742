-- `option::channel` meets its contract, way by way. Assumes nothing.
use borrow.Author.Tests.{le-ltb, lt-ltb, eq-eqb, ne_eqb}
use Rattle.quantity.specs.Limits.{RESERVED-CHANNEL}
use Rattle.meaning.specs.Kinds.{length_listed, value_listed}
use Rattle.read_option.specs.Items.{item_of, stated_of}
use Rattle.read_option.proofs.option.channel.Goals as goal

pub returns-then-content-ne1 : goal.returns-then-content-ne1
unfolding stated_of length_listed
returns-then-content-ne1 c = simp (ne_eqb _ 1 c.if-content-ne1.true)

pub returns-then-id-ge-RESERVED_CHANNEL : goal.returns-then-id-ge-RESERVED_CHANNEL
unfolding stated_of length_listed value_listed
returns-then-id-ge-RESERVED_CHANNEL c = simp (eq-eqb _ 1 c.if-content-ne1.false, le-ltb _ RESERVED-CHANNEL c.if-id-ge-RESERVED_CHANNEL.true)

pub returns : goal.returns
unfolding stated_of length_listed value_listed item_of
returns c = simp (eq-eqb _ 1 c.if-content-ne1.false, lt-ltb _ RESERVED-CHANNEL c.if-id-ge-RESERVED_CHANNEL.false)
