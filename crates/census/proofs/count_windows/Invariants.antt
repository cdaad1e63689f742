-- The windows of the channels from here on are left to be counted.
use mathlib.Core.Path.{◌≡◌}
use lib.ListN.{drop}
use Rattle.census.specs.Adding.{add_all}
use Rattle.census.specs.Places.{windows_from}
use Rattle.census.proofs.count_windows.Given as goal

abbrev pub invariant-loop-channel : goal.invariant-loop-channel
invariant-loop-channel l =
    add_all (windows_from l.channel (drop l.channel l.cell-items)) l.counts ≡ add_all (windows_from 0 l.cell-items) l.initial.counts
