-- `channel::save` meets its contract. Assumes nothing.
use native.Mathlib.Omega.{arith}
use Rattle.endpoint.proofs.Placing.{few, slot_ends, part_saved}
use Rattle.endpoint.proofs.channel.save.Goals as goal

pub overflow_mul-from : goal.overflow_mul-from
overflow_mul-from c = omega (arith, few _ _ c.requires)

pub overflow_add-from : goal.overflow_add-from
overflow_add-from c = omega (arith, few _ _ c.requires)

pub overflow_add-to : goal.overflow_add-to
overflow_add-to c = omega (arith, few _ _ c.requires)

pub offset_bounds-words-from : goal.offset_bounds-words-from
offset_bounds-words-from c = omega (arith, few _ _ c.requires)

pub slice_bounds-save-end : goal.slice_bounds-save-end
slice_bounds-save-end c = slot_ends _ _ c.requires

pub returns : goal.returns
returns c = part_saved _ _ c.requires _ _ c.save.ensures
