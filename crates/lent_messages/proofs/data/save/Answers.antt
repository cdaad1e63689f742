-- `data::save` meets its contract. Assumes nothing.
use Rattle.lent_messages.specs.Words.{data_words}
use Rattle.lent_messages.proofs.Saving.{data_set}
use Rattle.lent_messages.proofs.data.save.Goals as goal

pub returns : goal.returns
unfolding data_words
returns c = rw (c.one-lasting.ensures, c.one-named.ensures, c.counted-counted.ensures, c.one-link.ensures) (data_set c.args.words.now _ _ _ _ _ _ _ _ _ _ _ c.requires)
