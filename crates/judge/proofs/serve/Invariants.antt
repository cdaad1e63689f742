use Rattle.judge.proofs.Serving.{Serving}
use Rattle.judge.proofs.serve.Given as goal

abbrev pub invariant-loop-before : goal.invariant-loop-before
invariant-loop-before g l = Serving l.ports l.id l.initial.buffer l.initial.words l.buffer l.words l.input l.tally l.before
