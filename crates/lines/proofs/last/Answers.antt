use Rattle.std.proofs.Common.{true, false, ◌∙◌}
use Rattle.std.proofs.lemmas.Bool.{lt-ltb, le-ltb}
use Rattle.lines.proofs.Laws.{last_is}
use Rattle.lines.proofs.last.Goals as goal

pub returns-then-input : goal.returns-then-input
returns-then-input c = c.line.ensures ∙ last_is _ true (rw c.if-input.true)

pub returns-then-input-have : goal.returns-then-input-have
returns-then-input-have c = c.line-then-input-have.ensures ∙ last_is _ true (rw c.if-input.false (lt-ltb _ _ c.if-input-have.true))

pub returns : goal.returns
returns c = last_is _ false (rw c.if-input.false (le-ltb _ _ c.if-input-have.false))
