-- `rows::ids_fit` meets its contract. Assumes nothing.
use Rattle.radio_end_words.proofs.Numbered.{first_twice, first_on, first_end}
use Rattle.radio_end_words.proofs.rows.ids_fit.Goals as goal

pub returns-then-index_of-index : goal.returns-then-index_of-index
returns-then-index_of-index g c = first_twice g.row.HEAD g.row.SLOT c.args.words.now c.args.count _ c.loop-index.invariant c.loop-index-test.true _ c.index_of.ensures c.if-index_of-index.true

pub loop-index-preserved : goal.loop-index-preserved
loop-index-preserved g c = first_on g.row.HEAD g.row.SLOT c.args.words.now c.args.count _ c.loop-index.invariant c.loop-index-test.true _ c.index_of.ensures c.if-index_of-index.false

pub returns : goal.returns
returns g c = first_end g.row.HEAD g.row.SLOT c.args.words.now c.args.count _ c.loop-index.invariant c.loop-index-test.false _ c.index_of-2.ensures
