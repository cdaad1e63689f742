use Rattle.std.proofs.lemmas.Bool.{lt-leb, le-leb}
use Rattle.lines.specs.Unread.{tidy_of}
use Rattle.lines.proofs.tidy.Goals as goal

pub returns-then-input : goal.returns-then-input
unfolding tidy_of
returns-then-input c = rw (lt-leb _ _ c.if-input.true)

pub returns : goal.returns
unfolding tidy_of
returns c = rw (le-leb _ _ c.if-input.false)
