-- `stretch::move_down` meets its contract. The loop's invariant: as many bytes are moved as were counted.
use mathlib.Core.Path.{◌≡◌, refl}
use native.Mathlib.Omega.{arith}
use borrow.Author.Tests.{eq-eqb, ne_eqb}
use lib.ListN.{length-set}
use Rattle.store.proofs.Bytes.{moved_none, moved_more, moved_home}
use Rattle.store.proofs.stretch.move_down.Goals as goal

pub returns-then-to-from : goal.returns-then-to-from
returns-then-to-from c = record { store_after = rw c.if-to-from.true (moved_home _ _ _); value = rw (eq-eqb _ _ c.if-to-from.true) }

pub loop-moved-init : goal.loop-moved-init
loop-moved-init c = (omega arith, moved_none _ c.args.from _, refl)

pub loop-moved-preserved : goal.loop-moved-preserved
loop-moved-preserved c =
    let inv = c.loop-moved.invariant in
    (omega arith, moved_more _ _ _ _ _ inv.1 (omega arith) (omega arith), simp length-set inv.2)

pub returns : goal.returns
returns c =
    let all : c.loop-moved.moved ≡ c.args.bytes.0 = omega arith in
    record { store_after = rw (← all) c.loop-moved.invariant.1; value = rw (ne_eqb _ _ c.if-to-from.false, all) }
