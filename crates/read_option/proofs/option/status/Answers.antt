-- `option::status` meets its contract, way by way. Assumes nothing.
use borrow.Author.Tests.{le-ltb, lt-ltb, eq-eqb, ne_eqb}
use Rattle.quantity.specs.Limits.{RESERVED-CHANNEL}
use Rattle.meaning.specs.Kinds.{length_listed, value_listed}
use Rattle.read_option.specs.Items.{item_of, stated_of}
use Rattle.read_option.proofs.option.status.Goals as goal

pub returns-then-content-ne2 : goal.returns-then-content-ne2
unfolding stated_of length_listed
returns-then-content-ne2 c = simp (ne_eqb _ 2 c.if-content-ne2.true)

pub returns-then-channel-ge-RESERVED_CHANNEL : goal.returns-then-channel-ge-RESERVED_CHANNEL
unfolding stated_of length_listed value_listed
returns-then-channel-ge-RESERVED_CHANNEL c = simp (eq-eqb _ 2 c.if-content-ne2.false, le-ltb _ RESERVED-CHANNEL c.if-channel-ge-RESERVED_CHANNEL.true)

pub returns : goal.returns
unfolding stated_of length_listed value_listed item_of
returns c = simp (eq-eqb _ 2 c.if-content-ne2.false, lt-ltb _ RESERVED-CHANNEL c.if-channel-ge-RESERVED_CHANNEL.false)
