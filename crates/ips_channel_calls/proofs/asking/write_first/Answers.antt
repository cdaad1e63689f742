-- `asking::write_first` meets its contract. Assumes nothing.
use Rattle.ips_channel_calls.proofs.Leaving.{ready_sound, ready_alive}
use Rattle.ips_channel_calls.proofs.Message.{first_written}
use Rattle.ips_channel_calls.proofs.asking.write_first.Goals as goal

pub peek-packet-requires : goal.peek-packet-requires
peek-packet-requires c = ready_sound _ _ c.requires

pub returns : goal.returns
returns c = first_written _ _ _ _ _ _ _ _ _ c.requires.id (ready_alive _ _ c.requires _) c.carrier.ensures c.peek-packet.ensures c.write.ensures
