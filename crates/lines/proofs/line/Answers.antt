use Rattle.lines.specs.Unread.{line_of}
use Rattle.lines.proofs.line.Goals as goal

pub returns-then-input : goal.returns-then-input
unfolding line_of
returns-then-input c = rw c.if-input.true

pub returns : goal.returns
unfolding line_of
returns c = rw c.if-input.false
