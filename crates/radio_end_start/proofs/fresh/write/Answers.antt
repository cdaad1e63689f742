-- `fresh::write` meets its contract. Assumes nothing.
use mathlib.Core.Path.{refl}
use Rattle.radio_end_start.proofs.Writing.{all_written}
use Rattle.radio_end_start.proofs.fresh.write.Goals as goal

pub returns : goal.returns
returns c = all_written _ _ c.requires.1 _ _ _ _ c.write_head.ensures refl c.write_channels.ensures
