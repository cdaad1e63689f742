use mathlib.Core.Path.{◌≡◌}
use lib.ListN.{length}
use Rattle.station.proofs.serve.Given as goal

abbrev pub invariant-loop-turn : goal.invariant-loop-turn
invariant-loop-turn g l = length l.buffer ≡ length l.initial.buffer
