-- `call::withdraw_at` meets its contract. Assumes nothing.
use Prim.Native.Nat.{◌+◌, ◌≤◌}
use mathlib.Core.Path.{refl}
use native.Mathlib.Omega.{arith}
use lib.ListN.{length}
use Rattle.endpoint.proofs.Calling.{store_ends, ready, saved_at, moved_at_lem}
use Rattle.endpoint.proofs.call.withdraw_at.Goals as goal

pub overflow_add-end : goal.overflow_add-end
overflow_add-end c = omega (arith, (let the_ends : c.args.found.start + c.load-before.result.setting.size.0 ≤ length c.args.memory.now = store_ends _ _ c.requires _ c.load-before.ensures in the_ends))

pub slice_bounds-withdraw-end : goal.slice_bounds-withdraw-end
slice_bounds-withdraw-end c = (let the_ends : c.args.found.start + c.load-before.result.setting.size.0 ≤ length c.args.memory.now = store_ends _ _ c.requires _ c.load-before.ensures in the_ends)

pub withdraw-emptied-requires : goal.withdraw-emptied-requires
withdraw-emptied-requires c = ready _ _ c.requires _ c.load-before.ensures

pub returns : goal.returns
returns c = record { performed_in_at = saved_at _ _ c.requires _ c.load-before.ensures _ _ _ _ (c.withdraw-emptied.ensures.serves_anywhere _) refl _ c.save.ensures; moved_at = moved_at_lem _ _ c.requires _ c.load-before.ensures _ _ (c.withdraw-emptied.ensures.moves_anywhere _) }
