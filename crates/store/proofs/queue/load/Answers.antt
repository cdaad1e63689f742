-- `queue::load` meets its contract: the law of each turn is `Loading`'s. Assumes nothing.
use mathlib.Core.Path.{sym, ◌∙◌}
use native.Mathlib.Omega.{arith}
use borrow.Author.Rules.{rules}
use Rattle.facts.proofs.Lists.{length_mapped}
use Rattle.store.proofs.Entries.{Upcoming, upcoming, nothing_left, total_on}
use Rattle.store.proofs.Turns.{load_start, load_more, load_same, load_end}
use Rattle.store.proofs.queue.load.Goals as goal
use Rattle.store.proofs.queue.load.Goals.{then-lasts, else-lasts}

pub loop-at-init : goal.loop-at-init
loop-at-init c = (omega arith, load_start _ _)

pub overflow_add-bytes : goal.overflow_add-bytes
overflow_add-bytes c =
    let next : Upcoming c.args.queue c.loop-at.at = upcoming _ _ (search (length_mapped, rules)) c.requires.few c.loop-at-test.true in
    omega (arith, total_on _ _ _ next)

pub loop-at-preserved : goal.loop-at-preserved
loop-at-preserved c =
    let i = c.loop-at in
    let next : Upcoming c.args.queue i.at = upcoming _ _ (search (length_mapped, rules)) c.requires.few c.loop-at-test.true in
    elim c.if-lasts.branch [
      | then-lasts w ↦ rw (w.packets-is, w.bytes-is) (omega arith, load_more _ _ _ _ _ _ _ next i.invariant.1 (sym c.lasts.ensures ∙ w.if-lasts.true))
      | else-lasts w ↦ rw (w.packets-is, w.bytes-is) (omega arith, load_same _ _ _ _ _ _ _ next i.invariant.1 (sym c.lasts.ensures ∙ w.if-lasts.false))
    ]

pub returns : goal.returns
returns c = load_end _ _ _ _ _ (nothing_left _ _ c.loop-at-test.false) c.loop-at.invariant.1
