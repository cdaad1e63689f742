-- `slot::save` meets its contract. Assumes nothing.
use mathlib.Core.Path.{refl}
use Rattle.radio_end_words.proofs.Slots.{all_saved}
use Rattle.radio_end_words.proofs.slot.save.Goals as goal

pub returns : goal.returns
returns c = all_saved c.args.part.now c.args.channel _ _ _ _ _ c.requires refl refl refl c.highest_tag.ensures c.highest_value.ensures
