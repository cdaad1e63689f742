-- `call::offer_at` meets its contract. Assumes nothing.
use Prim.Native.Nat.{◌+◌, ◌≤◌}
use native.Mathlib.Omega.{arith}
use lib.ListN.{length}
use Rattle.endpoint.proofs.Calling.{store_ends, ready, performed_at, moved_at_lem}
use Rattle.endpoint.proofs.call.offer_at.Goals as goal
use Rattle.endpoint.proofs.call.offer_at.Goals.{then-is_ok, else-is_ok}

pub overflow_add-end : goal.overflow_add-end
overflow_add-end c = omega (arith, (let the_ends : c.args.found.start + c.load-before.result.setting.size.0 ≤ length c.args.memory.now = store_ends _ _ c.requires _ c.load-before.ensures in the_ends))

pub slice_bounds-offer-end : goal.slice_bounds-offer-end
slice_bounds-offer-end c = (let the_ends : c.args.found.start + c.load-before.result.setting.size.0 ≤ length c.args.memory.now = store_ends _ _ c.requires _ c.load-before.ensures in the_ends)

pub offer-offered-requires : goal.offer-offered-requires
offer-offered-requires c = ready _ _ c.requires _ c.load-before.ensures

pub returns : goal.returns
returns c = record { performed_in_at = performed_at _ _ c.requires _ c.load-before.ensures _ _ _ _ (c.offer-offered.ensures.serves_anywhere _) _ (elim c.if-is_ok.branch [ then-is_ok w ↦ rw (w.words-is, c.is_ok.ensures.negation, w.if-is_ok.true) w.save.ensures | else-is_ok w ↦ rw (w.words-is, c.is_ok.ensures.negation, w.if-is_ok.false) ]); moved_at = moved_at_lem _ _ c.requires _ c.load-before.ensures _ _ (c.offer-offered.ensures.moves_anywhere _) }
