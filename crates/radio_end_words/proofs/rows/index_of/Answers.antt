-- `rows::index_of` meets its contract. Assumes nothing.
use Rattle.radio_end_words.proofs.Numbered.{seek_found, seek_on, seek_end}
use Rattle.radio_end_words.proofs.rows.index_of.Goals as goal

pub returns-then-words-index : goal.returns-then-words-index
returns-then-words-index g c = seek_found _ _ _ _ _ _ c.loop-index.invariant c.loop-index-test.true c.if-words-index.true

pub loop-index-preserved : goal.loop-index-preserved
loop-index-preserved g c = seek_on _ _ _ _ _ _ c.loop-index.invariant c.loop-index-test.true c.if-words-index.false

pub returns : goal.returns
returns g c = seek_end _ _ _ _ _ _ c.loop-index.invariant c.loop-index.auto.index-end c.loop-index-test.false
