use Prim.Native.Nat.{◌-◌}
use Rattle.quantity.specs.Limits.{CHANNEL-IDS}
use Rattle.write_option.proofs.Tables.{Counting}
use Rattle.write_option.proofs.size.tables.Given as goal

abbrev pub invariant-loop-channel : goal.invariant-loop-channel
invariant-loop-channel l = Counting l.statuses l.sequences l.windows l.channel l.total

abbrev pub decreases-loop-channel : goal.decreases-loop-channel
decreases-loop-channel l = CHANNEL-IDS - l.channel
