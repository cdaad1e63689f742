use Rattle.records.proofs.Pieces.{Passing}
use Rattle.records.proofs.read_record.Given as goal

abbrev pub invariant-loop-turn : goal.invariant-loop-turn
invariant-loop-turn g l = Passing l.initial.buffer l.initial.at l.buffer l.at l._turn
