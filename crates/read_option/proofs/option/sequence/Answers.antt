-- `option::sequence` meets its contract, way by way. Assumes nothing.
use borrow.Author.Tests.{le-ltb, lt-ltb, eq-eqb, ne_eqb}
use lib.ListN.{length-drop}
use Rattle.facts.proofs.Lists.{rest_part}
use Rattle.quantity.specs.Limits.{RESERVED-CHANNEL}
use Rattle.meaning.specs.Kinds.{length_listed, value_listed}
use Rattle.read_option.specs.Items.{item_of, stated_of}
use Rattle.read_option.proofs.option.sequence.Goals as goal

pub returns-then-content-ne5 : goal.returns-then-content-ne5
unfolding stated_of length_listed
returns-then-content-ne5 c = simp (ne_eqb _ 5 c.if-content-ne5.true)

pub returns-then-channel-ge-RESERVED_CHANNEL : goal.returns-then-channel-ge-RESERVED_CHANNEL
unfolding stated_of length_listed value_listed
returns-then-channel-ge-RESERVED_CHANNEL c = simp (eq-eqb _ 5 c.if-content-ne5.false, le-ltb _ RESERVED-CHANNEL c.if-channel-ge-RESERVED_CHANNEL.true)

pub overflow_cast-word : goal.overflow_cast-word
overflow_cast-word c = record { fits = rw (rest_part, length-drop, c.if-content-ne5.false) at c.read-word.ensures.below }

pub returns : goal.returns
unfolding stated_of length_listed value_listed item_of
returns c = simp (eq-eqb _ 5 c.if-content-ne5.false, lt-ltb _ RESERVED-CHANNEL c.if-channel-ge-RESERVED_CHANNEL.false, c.read-word.ensures.value, rest_part)
