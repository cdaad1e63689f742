-- `asking::sent` meets its contract. Assumes nothing.
use Rattle.std.proofs.Common.{refl}
use Rattle.ips_channel_calls.proofs.Leaving.{ready_sound, left_counted}
use Rattle.ips_channel_calls.proofs.asking.sent.Goals as goal

pub pop-left-requires : goal.pop-left-requires
pop-left-requires c = ready_sound _ _ c.requires

pub returns : goal.returns
returns c = record { answer_is = refl; left = left_counted _ _ c.requires _ _ _ _ _ c.pop-left.ensures.holds c.with_queue.ensures _; moved_is = c.pop-left.ensures.moved_value }
