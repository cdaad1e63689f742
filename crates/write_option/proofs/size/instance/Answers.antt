-- `size::instance` meets its contract. Assumes nothing.
use native.Mathlib.Omega.{arith}
use Rattle.write_option.proofs.size.instance.Goals as goal

pub overflow_add-result : goal.overflow_add-result
overflow_add-result c = let h = rw c.in-Some.is at c.requires in omega arith

pub returns-in-Some : goal.returns-in-Some
returns-in-Some c =
    let h = rw c.in-Some.is at c.requires in
    rw c.in-Some.is (omega arith, omega arith)
