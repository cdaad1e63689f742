-- `named::context` meets its contract. Assumes nothing.
use mathlib.Core.Path.{sym}
use Rattle.nespovarda_station.specs.Named.{context_said}
use Rattle.nespovarda_station.proofs.named.context.Goals as goal

pub returns-then-says_none : goal.returns-then-says_none
unfolding context_said
returns-then-says_none c = rw (sym c.says_none.ensures, c.if-says_none.true)

pub returns : goal.returns
unfolding context_said
returns c = rw (sym c.says_none.ensures, c.if-says_none.false)
