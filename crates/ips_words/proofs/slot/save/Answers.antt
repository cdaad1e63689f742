-- `slot::save` meets its contract. Assumes nothing.
use Rattle.ips_words.proofs.Slots.{all_saved}
use Rattle.ips_words.proofs.slot.save.Goals as goal

pub returns : goal.returns
returns c = all_saved _ _ _ _ c.save_fixed.ensures c.save.ensures
