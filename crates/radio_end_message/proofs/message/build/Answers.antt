-- `message::build` meets its contract. Assumes nothing.
use Rattle.radio_end_message.proofs.Allowed.{built}
use Rattle.radio_end_message.proofs.message.build.Goals as goal

pub returns : goal.returns
returns c = built _ _ _ _ _ _ _ _ c.fill-filled.ensures c.datalink-datalink.ensures c.instance-instance.ensures
