-- `call::next_at` meets its contract. Assumes nothing.
use Prim.Native.Nat.{◌+◌, ◌≤◌}
use mathlib.Core.Path.{◌≡◌}
use native.Mathlib.Omega.{arith}
use lib.ListN.{length}
use Rattle.ips_state.specs.State.{State}
use Rattle.ips_words.specs.Words.{state_in}
use Rattle.ips_words_query.proofs.Gathering.{said_setting}
use Rattle.endpoint.proofs.Placing.{says_so}
use Rattle.endpoint.proofs.Calling.{state_fits_lem, store_ends, ready, performed_at, moved_at_lem}
use Rattle.endpoint.proofs.call.next_at.Goals as goal
use Rattle.endpoint.proofs.call.next_at.Goals.{then-is_ok, else-is_ok}

pub setting-datalink-requires : goal.setting-datalink-requires
setting-datalink-requires c = said_setting _ (state_fits_lem _ _ c.requires)

pub next-asked-requires : goal.next-asked-requires
next-asked-requires c = ready _ _ c.requires _ c.load-before.ensures

pub overflow_add-end : goal.overflow_add-end
overflow_add-end c = omega (arith, (let the_ends : c.args.found.start + c.load-before.result.setting.size.0 ≤ length c.args.memory.now = store_ends _ _ c.requires _ c.load-before.ensures in the_ends))

pub slice_bounds-next-end : goal.slice_bounds-next-end
slice_bounds-next-end c = (let the_ends : c.args.found.start + c.load-before.result.setting.size.0 ≤ length c.args.memory.now = store_ends _ _ c.requires _ c.load-before.ensures in the_ends)

pub returns : goal.returns
returns c =
    let datalink = (let the_named : c.setting-datalink.result ≡ (state_in c.args.words.now).datalink = says_so _ (state_fits_lem _ _ c.requires) (λ (s : State). s.datalink) _ c.setting-datalink.ensures in the_named) in
    record { performed_in_at = performed_at _ _ c.requires _ c.load-before.ensures _ _ _ _ (rw datalink at c.next-asked.ensures.serves) _ (elim c.if-is_ok.branch [ then-is_ok w ↦ rw (w.words-is, c.is_ok.ensures.negation, w.if-is_ok.true) w.save.ensures | else-is_ok w ↦ rw (w.words-is, c.is_ok.ensures.negation, w.if-is_ok.false) ]); moved_at = moved_at_lem _ _ c.requires _ c.load-before.ensures _ _ (rw datalink at c.next-asked.ensures.moves) }
