-- `asking::first_length` meets its contract. Assumes nothing.
use Rattle.ips_channel_calls.proofs.Leaving.{ready_sound}
use Rattle.ips_channel_calls.proofs.asking.first_length.Goals as goal

pub peek-requires : goal.peek-requires
peek-requires c = ready_sound _ _ c.requires
