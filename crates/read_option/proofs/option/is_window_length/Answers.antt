-- `option::is_window_length` meets its contract, arm by arm. Assumes nothing.
use native.Mathlib.Omega.{arith}
use Rattle.std.proofs.lemmas.Grind.{common_steps}
use Rattle.meaning.specs.Kinds.{length_listed}
use Rattle.read_option.proofs.option.is_window_length.Goals as goal

pub returns-in-1 : goal.returns-in-1
unfolding length_listed
returns-in-1 c = rw c.in-1.is

pub returns-in-5 : goal.returns-in-5
unfolding length_listed
returns-in-5 c = rw c.in-5.is

pub returns-in_default : goal.returns-in_default
unfolding length_listed
returns-in_default c = grind (arith, common_steps)
