use Prim.Native.Nat.{◌-◌}
use lib.ListN.{length}
use Rattle.note_control.proofs.Told.{Judged}
use Rattle.note_control.proofs.note.Given as goal

abbrev pub invariant-loop-at : goal.invariant-loop-at
invariant-loop-at l = Judged l.end l.id l.datagram l.at l.datalink l.instance l.context l.statuses l.sequences l.tags l.windows

abbrev pub decreases-loop-at : goal.decreases-loop-at
decreases-loop-at l = length l.datagram - l.at
