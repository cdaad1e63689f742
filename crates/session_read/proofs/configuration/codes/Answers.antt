-- `configuration::codes` meets its contract. Assumes nothing.
use native.Mathlib.Omega.{arith}
use Rattle.session_read.specs.Start.{codes_place, codes_of}
use Rattle.session_read.proofs.Configuring.{pace_fits, codes_fit}
use Rattle.session_read.proofs.configuration.codes.Goals as goal

pub behind-place-requires : goal.behind-place-requires
behind-place-requires c = omega (arith, c.pace_place.ensures, pace_fits c.requires)

pub perhaps-requires : goal.perhaps-requires
unfolding codes_place
perhaps-requires c = let place = rw c.pace_place.ensures at c.behind-place.ensures in omega (arith, place, codes_fit c.requires)

pub returns : goal.returns
unfolding codes_of codes_place
returns c = let place = rw c.pace_place.ensures at c.behind-place.ensures in rw (← place) c.perhaps.ensures
