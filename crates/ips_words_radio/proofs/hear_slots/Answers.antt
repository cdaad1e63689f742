-- `hear_slots` meets its contract: the law of each turn is `Hears`'s. Assumes nothing.
use native.Mathlib.Omega.{arith}
use Rattle.ips_words_radio.proofs.Hearing.{head_there, hears_start, from_few, slot_ends, id_here, hears_turn}
use Rattle.ips_words_radio.proofs.hear_slots.Goals as goal

pub bounds-words-1 : goal.bounds-words-1
bounds-words-1 c = omega (arith, head_there _ c.requires)

pub loop-at-init : goal.loop-at-init
loop-at-init c = hears_start _ _ _ _ c.requires c.narrow-count.ensures

pub overflow_mul-from : goal.overflow_mul-from
overflow_mul-from c = omega (arith, from_few _ _ _ _ _ _ c.loop-at.invariant c.loop-at-test.true)

pub overflow_add-from : goal.overflow_add-from
overflow_add-from c = omega (arith, from_few _ _ _ _ _ _ c.loop-at.invariant c.loop-at-test.true)

pub overflow_add-from-in-loop-at : goal.overflow_add-from-in-loop-at
overflow_add-from-in-loop-at c = omega (arith, from_few _ _ _ _ _ _ c.loop-at.invariant c.loop-at-test.true)

pub overflow_add-end : goal.overflow_add-end
overflow_add-end c = omega (arith, from_few _ _ _ _ _ _ c.loop-at.invariant c.loop-at-test.true)

pub offset_bounds-words-from : goal.offset_bounds-words-from
offset_bounds-words-from c = omega (arith, from_few _ _ _ _ _ _ c.loop-at.invariant c.loop-at-test.true)

pub bounds-words-from : goal.bounds-words-from
bounds-words-from c = omega (arith, slot_ends _ _ _ _ _ _ c.loop-at.invariant c.loop-at-test.true)

pub offset_bounds-words-from-in-loop-at : goal.offset_bounds-words-from-in-loop-at
offset_bounds-words-from-in-loop-at c = omega (arith, from_few _ _ _ _ _ _ c.loop-at.invariant c.loop-at-test.true)

pub slice_bounds-hear_slot-end : goal.slice_bounds-hear_slot-end
slice_bounds-hear_slot-end c = slot_ends _ _ _ _ _ _ c.loop-at.invariant c.loop-at-test.true

pub offset_bounds-message-id : goal.offset_bounds-message-id
offset_bounds-message-id c = omega (arith, (id_here _ _ _ _ _ _ c.loop-at.invariant c.loop-at-test.true _ c.narrow-id.ensures))

pub bounds-message-id : goal.bounds-message-id
bounds-message-id c = id_here _ _ _ _ _ _ c.loop-at.invariant c.loop-at-test.true _ c.narrow-id.ensures

pub offset_bounds-message-id-in-loop-at : goal.offset_bounds-message-id-in-loop-at
offset_bounds-message-id-in-loop-at c = omega (arith, (id_here _ _ _ _ _ _ c.loop-at.invariant c.loop-at-test.true _ c.narrow-id.ensures))

pub bounds-message-id-in-loop-at : goal.bounds-message-id-in-loop-at
bounds-message-id-in-loop-at c = (id_here _ _ _ _ _ _ c.loop-at.invariant c.loop-at-test.true _ c.narrow-id.ensures)

pub loop-at-preserved : goal.loop-at-preserved
loop-at-preserved c = hears_turn _ _ _ _ _ _ c.loop-at.invariant c.loop-at-test.true _ c.narrow-id.ensures _ c.hear_slot.ensures
