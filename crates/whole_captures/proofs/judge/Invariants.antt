use Rattle.records.proofs.Memory.{bytes_left}
use Rattle.whole_captures.proofs.Walks.{Judging}
use Rattle.whole_captures.proofs.judge.Given as goal

abbrev pub invariant-loop-from : goal.invariant-loop-from
invariant-loop-from l = Judging l.ports l.id l.capture l.initial.words l.input l.number l.words

abbrev pub decreases-loop-from : goal.decreases-loop-from
decreases-loop-from l = bytes_left l.input
