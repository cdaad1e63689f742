-- `asking::expired` meets its contract. Assumes nothing.
use Rattle.std.proofs.Common.{refl}
use Rattle.ips_channel_calls.proofs.Leaving.{ready_sound, left_with}
use Rattle.ips_channel_calls.proofs.asking.expired.Goals as goal

pub expire-left-requires : goal.expire-left-requires
expire-left-requires c = ready_sound _ _ c.requires

pub returns : goal.returns
returns c = record { answer_is = refl; left = left_with _ _ c.requires _ _ _ _ _ c.expire-left.ensures.holds c.with_queue.ensures; moved_is = c.expire-left.ensures.moved_value }
