use mathlib.Core.Path.{◌≡◌}
use lib.ListN.{length}
use Rattle.endpoint.specs.Lent.{lent}
use Rattle.handful.specs.Offering.{handful_in}
use Rattle.handful.proofs.Turning.{Turning}
use Rattle.handful.proofs.each.offer_each.Given as goal

abbrev pub invariant-loop-at : goal.invariant-loop-at
invariant-loop-at l = Turning (handful_in l.handed) (lent l.initial.words l.initial.memory) (lent l.words l.memory) l.answers l.moved l.from l.at × (length l.words ≡ length l.initial.words) × (length l.memory ≡ length l.initial.memory)
