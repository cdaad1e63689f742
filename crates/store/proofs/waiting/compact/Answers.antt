-- `waiting::compact` meets its contract: the law of each turn is `Going`'s. Assumes nothing.
use Rattle.std.proofs.Common.{sym, ◌∙◌, arith}
use borrow.Author.Rules.{rules}
use Rattle.facts.proofs.Lists.{length_mapped}
use Rattle.store.proofs.Entries.{Upcoming, upcoming, nothing_left}
use Rattle.store.proofs.Turns.{going_start, going_fits, going_on, going_more, going_end}
use Rattle.store.proofs.Moved.{counting_start, counting_on, counting_more, counting_end}
use Rattle.store.proofs.waiting.compact.Goals as goal
use Rattle.store.proofs.waiting.compact.Goals.{then-lasts, else-lasts}

pub loop-at-init : goal.loop-at-init
loop-at-init c = (going_start _ _ _ _ _ c.requires, counting_start _ _ _ c.requires.sizes)

pub overflow_add-next : goal.overflow_add-next
overflow_add-next c =
    let next : Upcoming c.args.queue c.loop-at.at = upcoming _ _ (search (length_mapped, rules)) c.requires.few c.loop-at-test.true in
    omega (arith, going_fits _ _ _ _ _ _ _ _ _ next c.loop-at.invariant.0)

pub move_down-written-requires : goal.move_down-written-requires
move_down-written-requires c =
    let next : Upcoming c.args.queue c.loop-at.at = upcoming _ _ (search (length_mapped, rules)) c.requires.few c.loop-at-test.true in
    let i = c.loop-at.invariant.0 in
    (i.behind, omega (arith, going_fits _ _ _ _ _ _ _ _ _ next i))

pub overflow_add-moved : goal.overflow_add-moved
overflow_add-moved c =
    let next : Upcoming c.args.queue c.loop-at.at = upcoming _ _ (search (length_mapped, rules)) c.requires.few c.loop-at-test.true in
    let i = c.loop-at.invariant in
    let lasts = sym c.lasts.ensures ∙ c.if-lasts.true in
    omega (arith, i.0.behind, going_fits _ _ _ _ _ _ _ _ _ next i.0, (counting_more _ _ _ _ _ _ _ _ next i.1 lasts _ c.move_down-written.ensures.value).most)

pub overflow_add-to : goal.overflow_add-to
overflow_add-to c =
    let next : Upcoming c.args.queue c.loop-at.at = upcoming _ _ (search (length_mapped, rules)) c.requires.few c.loop-at-test.true in
    let i = c.loop-at.invariant.0 in
    omega (arith, i.behind, going_fits _ _ _ _ _ _ _ _ _ next i)

pub loop-at-preserved : goal.loop-at-preserved
loop-at-preserved c =
    let next : Upcoming c.args.queue c.loop-at.at = upcoming _ _ (search (length_mapped, rules)) c.requires.few c.loop-at-test.true in
    let i = c.loop-at.invariant in
    elim c.if-lasts.branch [
      | then-lasts w ↦
          let lasts = sym c.lasts.ensures ∙ w.if-lasts.true in
          rw (w.store-is, w.to-is, w.moved-is)
          (going_more _ _ _ _ _ _ _ _ _ next i.0 _ lasts w.move_down-written.ensures.store_after, counting_more _ _ _ _ _ _ _ _ next i.1 lasts _ w.move_down-written.ensures.value)
      | else-lasts w ↦
          let expired = sym c.lasts.ensures ∙ w.if-lasts.false in
          rw (w.store-is, w.to-is, w.moved-is)
          (going_on _ _ _ _ _ _ _ _ _ next i.0 expired, counting_on _ _ _ _ _ _ _ _ next i.1 expired i.0.behind)
    ]

pub shape_of-store : goal.shape_of-store
shape_of-store c = c.loop-at.invariant.0.long

pub returns : goal.returns
returns c =
    let i = c.loop-at.invariant in
    let none = nothing_left _ _ c.loop-at-test.false in
    record { end_in_bounds = (omega (arith, i.0.behind, i.0.room), going_end _ _ _ _ _ _ _ none i.0); moved_value = counting_end _ _ _ _ _ _ none i.1 }
