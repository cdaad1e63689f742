-- `message::write` meets its contract. Assumes nothing.
use Rattle.radio_end_message.proofs.Allowed.{written}
use Rattle.radio_end_message.proofs.message.write.Goals as goal

pub returns : goal.returns
returns c = written _ _ _ _ _ c.requires _ c.build-message.ensures _ _ _ c.write.ensures
