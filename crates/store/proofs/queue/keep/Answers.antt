-- `queue::keep` meets its contract: the law of each turn is `Keeping`'s. Assumes nothing.
use mathlib.Core.Path.{sym, ◌∙◌}
use native.Mathlib.Omega.{arith}
use borrow.Author.Rules.{rules}
use Rattle.facts.proofs.Lists.{length_mapped}
use Rattle.store.specs.Parts.{appended}
use Rattle.store.proofs.Entries.{Upcoming, upcoming, nothing_left}
use Rattle.store.proofs.Turns.{keep_start, keep_more, keep_same, keep_end}
use Rattle.store.proofs.queue.keep.Goals as goal
use Rattle.store.proofs.queue.keep.Goals.{then-lasts, else-lasts}

pub loop-at-init : goal.loop-at-init
loop-at-init c = keep_start _ _ _ _ c.empty-left.ensures

pub loop-at-preserved : goal.loop-at-preserved
unfolding appended
loop-at-preserved c =
    let i = c.loop-at in
    let next : Upcoming c.args.queue i.at = upcoming _ _ (search (length_mapped, rules)) c.requires c.loop-at-test.true in
    elim c.if-lasts.branch [
      | then-lasts w ↦ keep_more _ _ _ _ _ _ _ next i.invariant _ (sym c.lasts.ensures ∙ w.if-lasts.true) w.left-is (omega arith)
      | else-lasts w ↦ rw w.left-is (keep_same _ _ _ _ _ _ _ next i.invariant (sym c.lasts.ensures ∙ w.if-lasts.false))
    ]

pub returns : goal.returns
returns c = keep_end _ _ _ _ _ (nothing_left _ _ c.loop-at-test.false) c.loop-at.invariant
