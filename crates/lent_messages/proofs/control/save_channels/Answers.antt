-- `control::save_channels` meets its contract. Assumes nothing.
use mathlib.Core.Path.{refl}
use Rattle.lent_messages.specs.Words.{words_at}
use Rattle.lent_messages.proofs.Saving.{going_start, going_on}
use Rattle.lent_messages.proofs.control.save_channels.Goals as goal

pub loop-id-init : goal.loop-id-init
loop-id-init c = going_start _ _ _ c.requires refl

pub loop-id-preserved : goal.loop-id-preserved
unfolding words_at
loop-id-preserved c = going_on _ _ _ _ _ _ c.loop-id.invariant c.loop-id-test.true c.channel_start.ensures refl c.save_channel.auto.words c.save_channel.ensures
