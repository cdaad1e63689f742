-- `data::load` meets its contract. Assumes nothing.
use Rattle.lent_messages.specs.Stated.{datalink_of, channel_of, expiration_of}
use Rattle.lent_messages.specs.Words.{data_of}
use Rattle.lent_messages.proofs.data.load.Goals as goal

pub returns : goal.returns
unfolding data_of datalink_of channel_of expiration_of
returns c = rw (c.one_of-3.ensures, c.one_of-2.ensures, c.counted_of.ensures, c.one_of.ensures)
