-- `control::save` meets its contract. Assumes nothing.
use Rattle.lent_messages.proofs.Saving.{whole_saved}
use Rattle.lent_messages.proofs.control.save.Goals as goal

pub returns : goal.returns
returns c = whole_saved c.args.message.now c.args.words.now _ _ c.save_head.ensures c.save_channels.ensures
