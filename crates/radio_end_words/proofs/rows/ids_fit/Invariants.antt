use Rattle.std.proofs.Common.{◌≡◌, ℕ, ◌<◌, true}
use Rattle.radio_end_state.specs.Limits.{stands_first}
use Rattle.radio_end_words.specs.Rows.{numbers}
use Rattle.radio_end_words.proofs.rows.ids_fit.Given as goal

abbrev pub invariant-loop-index : goal.invariant-loop-index
invariant-loop-index g l = (i : ℕ) → i < l.index → stands_first (numbers g.row.HEAD g.row.SLOT l.words l.count) i ≡ true
