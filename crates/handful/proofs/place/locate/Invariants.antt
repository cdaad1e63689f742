use Rattle.handful.proofs.Locating.{Locating}
use Rattle.handful.proofs.place.locate.Given as goal

abbrev pub invariant-loop-index : goal.invariant-loop-index
invariant-loop-index l = Locating l.words l.id l.start l.index
