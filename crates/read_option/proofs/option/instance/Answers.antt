-- `option::instance` meets its contract, way by way. Assumes nothing.
use mathlib.Core.Path.{sym, ◌∙◌}
use Rattle.meaning.specs.Kinds.{length_listed, value_listed}
use Rattle.read_option.specs.Items.{item_of, stated_of}
use Rattle.read_option.proofs.Contents.{instance_fits}
use Rattle.read_option.proofs.option.instance.Goals as goal

pub returns-then-not-is_instance_length : goal.returns-then-not-is_instance_length
unfolding stated_of length_listed
returns-then-not-is_instance_length c = rw (sym c.is_instance_length.ensures ∙ c.if-not-is_instance_length.true)

pub read-requires : goal.read-requires
read-requires c = instance_fits _ (sym c.is_instance_length.ensures ∙ c.if-not-is_instance_length.false)

pub returns : goal.returns
unfolding stated_of length_listed value_listed item_of
returns c = rw (sym c.is_instance_length.ensures ∙ c.if-not-is_instance_length.false, c.read.ensures.value)
