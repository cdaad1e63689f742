-- `hear` meets its contract. Assumes nothing.
use mathlib.Core.Path.{refl}
use native.Mathlib.Numerals.{add-one}
use Rattle.conduct.specs.Words.{heard_up_to}
use Rattle.conduct.proofs.hear.Goals as goal

pub loop-i-init : goal.loop-i-init
unfolding heard_up_to
loop-i-init c = refl

pub loop-i-preserved : goal.loop-i-preserved
unfolding heard_up_to
loop-i-preserved c = rw (add-one c.loop-i.i, c.put.ensures, c.loop-i.invariant, c.flow_word.ensures) refl
