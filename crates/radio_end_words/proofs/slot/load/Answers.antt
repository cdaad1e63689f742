-- `slot::load` meets its contract. Assumes nothing.
use Rattle.radio_end_words.specs.Words.{channel_in}
use Rattle.radio_end_words.proofs.slot.load.Goals as goal

pub returns : goal.returns
unfolding channel_in
returns c = rw c.highest_of-highest.ensures
