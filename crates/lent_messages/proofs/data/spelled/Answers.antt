-- `data::spelled` meets its contract. Assumes nothing.
use borrow.Author.Tests.{eq-eqb, ne_eqb}
use Rattle.lent_messages.specs.Layout.{DATA-WORDS}
use Rattle.lent_messages.specs.Words.{data_spelled}
use Rattle.lent_messages.proofs.data.spelled.Goals as goal

pub returns-then-words-eq-DATA_WORDS : goal.returns-then-words-eq-DATA_WORDS
unfolding data_spelled
returns-then-words-eq-DATA_WORDS c = rw (eq-eqb _ DATA-WORDS c.if-words-eq-DATA_WORDS.true) c.parts_spelled.ensures

pub returns-else-words-eq-DATA_WORDS : goal.returns-else-words-eq-DATA_WORDS
unfolding data_spelled
returns-else-words-eq-DATA_WORDS c = rw (ne_eqb _ DATA-WORDS c.if-words-eq-DATA_WORDS.false)
