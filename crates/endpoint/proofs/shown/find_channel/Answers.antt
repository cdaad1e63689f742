-- `shown::find_channel` meets its contract. Assumes nothing.
use Rattle.endpoint.proofs.Showing.{channel_placed, channel_shown}
use Rattle.endpoint.proofs.shown.find_channel.Goals as goal

pub load-channel-requires : goal.load-channel-requires
load-channel-requires c = channel_placed _ _ _ c.memory_asked.ensures _ c.find-place.ensures _ c.in-Ok.is

pub returns-in-Ok : goal.returns-in-Ok
returns-in-Ok c = channel_shown _ _ _ c.memory_asked.ensures _ c.find-place.ensures _ _ c.in-Ok.is c.load-channel.ensures

pub returns-in-Err : goal.returns-in-Err
returns-in-Err c = rw c.in-Err.is (channel_shown _ _ _ c.memory_asked.ensures _ c.find-place.ensures _ _ c.in-Err.is c.fresh-channel.ensures)
