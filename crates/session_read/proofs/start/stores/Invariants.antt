use Rattle.session_read.specs.Lines.{numbers_in}
use Rattle.session_read.proofs.Starting.{Adding}
use Rattle.session_read.proofs.start.stores.Given as goal

abbrev pub invariant-loop-index : goal.invariant-loop-index
invariant-loop-index l = Adding (numbers_in l.n) l.total l.index
