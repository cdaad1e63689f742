-- `head::save_instance` meets its contract. Assumes nothing.
use native.Mathlib.Omega.{arith}
use lib.ListN.{length-set}
use Rattle.radio_end_words.proofs.Placing.{fit_length, instance_saved}
use Rattle.radio_end_words.proofs.head.save_instance.Goals as goal

pub bounds-words-2 : goal.bounds-words-2
bounds-words-2 c = omega (arith, fit_length _ c.requires)

pub bounds-words-3 : goal.bounds-words-3
bounds-words-3 c = simp length-set (omega (arith, fit_length _ c.requires))

pub bounds-words-4 : goal.bounds-words-4
bounds-words-4 c = simp length-set (omega (arith, fit_length _ c.requires))

pub returns : goal.returns
returns c = instance_saved _ c.requires _ _ c.instance-named.ensures
