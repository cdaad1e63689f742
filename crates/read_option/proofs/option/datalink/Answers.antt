-- `option::datalink` meets its contract, way by way. Assumes nothing.
use borrow.Author.Tests.{eq-eqb, ne_eqb}
use Rattle.meaning.specs.Kinds.{length_listed, value_listed}
use Rattle.read_option.specs.Items.{item_of, stated_of}
use Rattle.read_option.proofs.option.datalink.Goals as goal

pub returns-then-content-ne1 : goal.returns-then-content-ne1
unfolding stated_of length_listed
returns-then-content-ne1 c = simp (ne_eqb _ 1 c.if-content-ne1.true)

pub returns : goal.returns
unfolding stated_of length_listed value_listed item_of
returns c = simp (eq-eqb _ 1 c.if-content-ne1.false)
