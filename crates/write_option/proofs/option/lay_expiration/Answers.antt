-- `option::lay_expiration` meets its contract: an Expiration Time is laid, or nothing. Assumes nothing.
use native.Mathlib.Omega.{arith}
use Rattle.write_option.proofs.Laying.{laid_nothing}
use Rattle.write_option.proofs.option.lay_expiration.Goals as goal

pub lay_number-requires : goal.lay_number-requires
lay_number-requires c = record { size_bound = omega arith; number_in_bounds = rw c.in-Some.is at c.requires }

pub returns-in-None : goal.returns-in-None
returns-in-None c = rw c.in-None.is (laid_nothing _)

pub returns-in-Some : goal.returns-in-Some
returns-in-Some c = rw c.in-Some.is c.lay_number.ensures
