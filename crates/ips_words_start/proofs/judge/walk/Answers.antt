-- `judge::walk` meets its contract: the law of each turn is `Judging`'s. Assumes nothing.
use mathlib.Core.Path.{refl, sym, ◌∙◌}
use Rattle.ips_words_start.proofs.Judging.{judge_start, judge_on, judge_end, out_unfit, out_twice, out_none}
use Rattle.ips_words_start.proofs.judge.walk.Goals as goal

pub loop-at-init : goal.loop-at-init
loop-at-init c = judge_start _ _

pub returns-then-not-start_fits : goal.returns-then-not-start_fits
returns-then-not-start_fits c =
    out_unfit _ _ _ _ _ c.loop-at.invariant c.loop-at-test.true _ _ _ _ c.narrow-id.ensures refl refl c.narrow-size.ensures (sym c.start_fits.ensures ∙ c.if-not-start_fits.true)

pub returns-then-seen-id : goal.returns-then-seen-id
returns-then-seen-id c =
    out_twice _ _ _ _ _ c.loop-at.invariant c.loop-at-test.true _ _ _ _ c.narrow-id.ensures refl refl c.narrow-size.ensures (sym c.start_fits.ensures ∙ c.if-not-start_fits.false) c.if-seen-id.true

pub loop-at-preserved : goal.loop-at-preserved
loop-at-preserved c = judge_on _ _ _ _ _ c.loop-at.invariant c.loop-at-test.true _ _ _ _ c.narrow-id.ensures refl refl c.narrow-size.ensures (sym c.start_fits.ensures ∙ c.if-not-start_fits.false) c.if-seen-id.false

pub returns-then-not-seen : goal.returns-then-not-seen
returns-then-not-seen c = out_none _ _ _ _ _ c.loop-at.invariant c.loop-at-test.false c.if-not-seen.true

pub returns : goal.returns
returns c = judge_end _ _ _ _ _ c.loop-at.invariant c.loop-at-test.false c.if-not-seen.false
