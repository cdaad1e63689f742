-- `queue::first` meets its contract: the law of each turn is `Seeking`'s. Assumes nothing.
use Prim.Native.Nat.{ℕ}
use mathlib.Core.Path.{◌≡◌, sym, subst, ◌∙◌}
use native.Mathlib.Omega.{arith}
use borrow.Author.Rules.{rules}
use Rattle.facts.proofs.Lists.{length_mapped}
use Rattle.store.specs.Parts.{IsFirst}
use Rattle.store.proofs.Entries.{Upcoming, upcoming, nothing_left, total_on}
use Rattle.store.proofs.Turns.{seek_start, seek_on, seek_here, seek_end}
use Rattle.store.proofs.queue.first.Goals as goal

pub loop-at-init : goal.loop-at-init
loop-at-init c = seek_start _ _

pub overflow_add-end : goal.overflow_add-end
overflow_add-end c = omega (arith, total_on _ _ _ ((let the_step : Upcoming c.args.queue c.loop-at.at = upcoming _ _ (search (length_mapped, rules)) c.requires.few c.loop-at-test.true in the_step)))

pub returns-then-lasts : goal.returns-then-lasts
returns-then-lasts c = seek_here _ _ _ _ c.loop-at.invariant _ ((let the_step : Upcoming c.args.queue c.loop-at.at = upcoming _ _ (search (length_mapped, rules)) c.requires.few c.loop-at-test.true in the_step)) (sym c.lasts.ensures ∙ c.if-lasts.true)

pub loop-at-preserved : goal.loop-at-preserved
loop-at-preserved c = seek_on _ _ _ _ _ _ ((let the_step : Upcoming c.args.queue c.loop-at.at = upcoming _ _ (search (length_mapped, rules)) c.requires.few c.loop-at-test.true in the_step)) c.loop-at.invariant (sym c.lasts.ensures ∙ c.if-lasts.false)

pub returns : goal.returns
returns c =
    let all : c.loop-at.at ≡ c.args.queue.count = omega arith in
    subst (λ (n : ℕ). IsFirst c.args.queue c.args.time (record { start = c.loop-at.start; end = c.loop-at.start; behind = n })) all
    (seek_end _ _ _ _ c.loop-at.invariant (nothing_left _ _ c.loop-at-test.false))
