-- `place::index_of` meets its contract. Assumes nothing.
use Rattle.radio_end_words.proofs.Placing.{numbers_are}
use Rattle.radio_end_words.proofs.place.index_of.Goals as goal

pub returns : goal.returns
returns c = rw (← numbers_are c.args.words.now c.args.count c.requires) c.index_of.ensures
