use Rattle.records.proofs.Memory.{bytes_left}
use Rattle.whole_captures.proofs.Walks.{Counting}
use Rattle.whole_captures.proofs.count.Given as goal

abbrev pub invariant-loop-from : goal.invariant-loop-from
invariant-loop-from l = Counting l.ports l.id l.capture l.initial.counts l.input l.counts

abbrev pub decreases-loop-from : goal.decreases-loop-from
decreases-loop-from l = bytes_left l.input
