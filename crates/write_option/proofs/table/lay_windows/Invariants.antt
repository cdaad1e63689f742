use Prim.Native.Nat.{◌-◌}
use Rattle.quantity.specs.Limits.{CHANNEL-IDS}
use Rattle.write_option.proofs.Tables.{window_table, Going}
use Rattle.write_option.proofs.table.lay_windows.Given as goal

abbrev pub invariant-loop-channel : goal.invariant-loop-channel
invariant-loop-channel l = Going window_table l.cells l.initial.out l.channel l.at l.out

abbrev pub decreases-loop-channel : goal.decreases-loop-channel
decreases-loop-channel l = CHANNEL-IDS - l.channel
