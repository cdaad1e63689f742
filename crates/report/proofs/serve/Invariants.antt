use Rattle.report.proofs.Serving.{Serving}
use Rattle.report.proofs.serve.Given as goal

abbrev pub invariant-loop-number : goal.invariant-loop-number
invariant-loop-number g l = Serving l.ports l.id l.initial.buffer l.initial.counts l.buffer l.counts l.input l._number
