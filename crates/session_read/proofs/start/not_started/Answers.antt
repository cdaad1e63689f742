-- `start::not_started` meets its contract. Assumes nothing.
use mathlib.Core.Path.{refl}
use Rattle.session_read.specs.Start.{no_start}
use Rattle.session_read.proofs.start.not_started.Goals as goal

pub returns : goal.returns
unfolding no_start
returns c = refl
