use Rattle.radio_end_words.specs.Rows.{numbers}
use Rattle.radio_end_words.proofs.Numbered.{Seeking}
use Rattle.radio_end_words.proofs.rows.index_of.Given as goal

abbrev pub invariant-loop-index : goal.invariant-loop-index
invariant-loop-index g l = Seeking (numbers g.row.HEAD g.row.SLOT l.words l.count) l.id l.index
