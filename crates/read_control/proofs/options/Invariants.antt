use Prim.Native.Nat.{◌-◌}
use lib.ListN.{length}
use mathlib.Core.Path.{◌≡◌}
use Rattle.read_rules.specs.declared.answer.Verdict.{Verdict}
use Rattle.read_control.proofs.Message.{Reached}
use Rattle.read_control.proofs.options.Given as goal

abbrev pub invariant-loop-at : goal.invariant-loop-at
invariant-loop-at l = (l.reading.verdict ≡ Verdict.Accepted) × Reached l.end l.id l.datagram l.at l.reading.message

abbrev pub decreases-loop-at : goal.decreases-loop-at
decreases-loop-at l = length l.datagram - l.at
