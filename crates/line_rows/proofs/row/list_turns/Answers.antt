-- `row::list_turns` meets its contract: the times that are left give the whole. Assumes nothing.
use native.Mathlib.Omega.{arith}
use Rattle.line_rows.proofs.Laws.{list_on, list_end}
use Rattle.line_rows.proofs.row.list_turns.Goals as goal

pub loop-turn-preserved : goal.loop-turn-preserved
loop-turn-preserved c = list_on c.loop-turn.invariant (omega arith) c.items-r.ensures

pub returns : goal.returns
returns c = list_end c.loop-turn.invariant (omega arith)
