-- `each::offer_each` meets its contract: the law of each turn is `Turning`'s. Assumes nothing.
use Prim.Native.Nat.{◌+◌, ◌≤◌, ◌<◌}
use mathlib.Core.Path.{refl, ◌∙◌}
use native.Mathlib.Omega.{arith}
use lib.ListN.{length, get_or}
use Rattle.quantity.specs.Limits.{MOST-AT-ONCE}
use Rattle.handful.proofs.Turning.{turning_start, within_lists, stretch_ends, few_turns, moved_fits, turning_again, turning_end}
use Rattle.handful.proofs.each.offer_each.Goals as goal

pub loop-at-init : goal.loop-at-init
loop-at-init c = (turning_start _ _ _ c.requires, refl, refl)

pub offset_bounds-handed-at : goal.offset_bounds-handed-at
offset_bounds-handed-at c =
    let few : c.loop-at.at < MOST-AT-ONCE = few_turns _ _ _ c.requires _ _ _ _ _ c.loop-at.invariant.0 c.loop-at-test.true in
    omega (arith, few)

pub bounds-handed-at : goal.bounds-handed-at
bounds-handed-at c =
    (within_lists _ _ _ c.requires _ _ _ _ _ c.loop-at.invariant.0 c.loop-at-test.true).1

pub overflow_add-end : goal.overflow_add-end
overflow_add-end c =
    let ends : c.loop-at.from + get_or c.args.handed.lengths.now c.loop-at.at 0 ≤ length c.args.handed.packets.now = stretch_ends _ _ _ c.requires _ _ _ _ _ c.loop-at.invariant.0 c.loop-at-test.true in
    omega (arith, ends, c.narrow.ensures)

pub slice_bounds-packet-end : goal.slice_bounds-packet-end
slice_bounds-packet-end c =
    let ends : c.loop-at.from + get_or c.args.handed.lengths.now c.loop-at.at 0 ≤ length c.args.handed.packets.now = stretch_ends _ _ _ c.requires _ _ _ _ _ c.loop-at.invariant.0 c.loop-at-test.true in
    omega (arith, ends, c.narrow.ensures)

pub offset_bounds-handed-at-in-loop-at : goal.offset_bounds-handed-at-in-loop-at
offset_bounds-handed-at-in-loop-at c =
    let few : c.loop-at.at < MOST-AT-ONCE = few_turns _ _ _ c.requires _ _ _ _ _ c.loop-at.invariant.0 c.loop-at-test.true in
    omega (arith, few)

pub bounds-handed-at-in-loop-at : goal.bounds-handed-at-in-loop-at
bounds-handed-at-in-loop-at c =
    (within_lists _ _ _ c.requires _ _ _ _ _ c.loop-at.invariant.0 c.loop-at-test.true).0

pub overflow_add-moved : goal.overflow_add-moved
overflow_add-moved c =
    omega (arith, moved_fits _ _ _ c.requires _ _ _ _ _ c.loop-at.invariant.0 c.loop-at-test.true _ c.narrow.ensures _ _ _ c.offer_one-one.ensures.performed_in c.offer_one-one.ensures.moved_value)

pub loop-at-preserved : goal.loop-at-preserved
loop-at-preserved c =
    (turning_again _ _ _ c.requires _ _ _ _ _ c.loop-at.invariant.0 c.loop-at-test.true _ c.narrow.ensures _ _ _ c.offer_one-one.ensures.performed_in c.offer_one-one.ensures.moved_value _ c.number_of.ensures, c.offer_one-one.auto.words ∙ c.loop-at.invariant.1, c.offer_one-one.auto.memory ∙ c.loop-at.invariant.2)

pub returns : goal.returns
returns c = turning_end _ _ _ c.requires _ _ _ _ _ c.loop-at.invariant.0 c.loop-at-test.false
