-- `fresh::write_channels` meets its contract: the law of each turn is `Writing`'s. Assumes nothing.
use Rattle.radio_end_start.proofs.Writing.{write_start, write_on, write_end}
use Rattle.radio_end_start.proofs.fresh.write_channels.Goals as goal

pub loop-index-init : goal.loop-index-init
loop-index-init c = write_start _ _ _ c.requires.0

pub loop-index-preserved : goal.loop-index-preserved
loop-index-preserved c = write_on _ _ _ _ _ c.loop-index.invariant c.loop-index-test.true _ _ c.channel_at-channel.ensures c.save.ensures

pub returns : goal.returns
returns c = write_end _ _ _ _ _ c.loop-index.invariant c.loop-index.auto.index-end c.loop-index-test.false
