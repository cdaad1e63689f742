use Prim.Native.Nat.{◌-◌}
use mathlib.Core.Path.{◌≡◌}
use lib.ListN.{length, drop}
use Rattle.wire.specs.Options.{split}
use Rattle.read_rules.specs.Judging.{judge}
use Rattle.read_rules.specs.Sorts.{rules_of}
use Rattle.read_data.specs.Message.{data_sort}
use Rattle.read_data.proofs.Message.{gathered}
use Rattle.read_data.proofs.options.Given as goal

abbrev pub invariant-loop-at : goal.invariant-loop-at
invariant-loop-at l = judge (rules_of (data_sort l.end l.id)) (split (drop 1 l.datagram)) 1 (data_sort l.end l.id).blank
    ≡ judge (rules_of (data_sort l.end l.id)) (split (drop l.at l.datagram)) l.at (gathered l.datalink l.sequence l.channel l.expiration l.packet)

abbrev pub decreases-loop-at : goal.decreases-loop-at
decreases-loop-at l = length l.datagram - l.at
