-- `word::spells` meets its contract: what is left to spell gives the same as the whole. Assumes nothing.
use mathlib.Core.Path.{sym, ◌∙◌}
use native.Mathlib.Omega.{arith}
use Rattle.line_rows.proofs.Laws.{spells_short, spells_other, spells_on, spells_end}
use Rattle.line_rows.proofs.word.spells.Goals as goal

pub returns-then-left-eq0 : goal.returns-then-left-eq0
returns-then-left-eq0 c = spells_short c.loop-byte.invariant (omega arith) c.if-left-eq0.true

pub returns-then-from-left : goal.returns-then-from-left
returns-then-from-left c = spells_other c.loop-byte.invariant (omega arith) c.if-left-eq0.false (λ e. c.if-from-left.true (c.from.ensures ∙ e))

pub loop-byte-preserved : goal.loop-byte-preserved
loop-byte-preserved c = spells_on c.loop-byte.invariant (omega arith) c.if-left-eq0.false (sym c.from.ensures ∙ c.if-from-left.false)

pub returns : goal.returns
returns c = spells_end c.loop-byte.invariant (omega arith)
