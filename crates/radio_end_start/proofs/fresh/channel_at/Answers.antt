-- `fresh::channel_at` meets its contract. Assumes nothing.
use mathlib.Core.Path.{refl}
use Rattle.radio_end_start.specs.Start.{setting_in}
use Rattle.radio_end_start.proofs.fresh.channel_at.Goals as goal

pub returns : goal.returns
unfolding setting_in
returns c = refl
