-- `begin` meets its contract: each way out is a law of `Beginning`. Assumes nothing.
use native.Mathlib.Omega.{arith}
use Rattle.ips_words_start.proofs.Beginning.{configuration_long, counted_few, startable, judged_fits, begin_unfit, begin_memory, begin_words, begin_waits, begun}
use Rattle.ips_words_start.proofs.begin.Goals as goal

pub returns-in_default : goal.returns-in_default
returns-in_default c = begin_unfit _ _ _ c.in_default.ensures _ c.refused.ensures

pub returns-then-total-memory : goal.returns-then-total-memory
returns-then-total-memory c = begin_memory _ _ _ _ c.in-Some.ensures c.if-total-memory.true _ c.refused-then-total-memory.ensures

pub bounds-configuration-1 : goal.bounds-configuration-1
bounds-configuration-1 c = omega (arith, configuration_long _ (judged_fits _ _ c.in-Some.ensures))

pub overflow_mul-count : goal.overflow_mul-count
overflow_mul-count c = omega (arith, counted_few _ (judged_fits _ _ c.in-Some.ensures), c.narrow-count.ensures)

pub overflow_add-count : goal.overflow_add-count
overflow_add-count c = omega (arith, counted_few _ (judged_fits _ _ c.in-Some.ensures), c.narrow-count.ensures)

pub returns-then-words-count : goal.returns-then-words-count
returns-then-words-count c = begin_words _ _ _ _ c.in-Some.ensures c.if-total-memory.false _ c.narrow-count.ensures c.if-words-count.true _ c.refused-then-words-count.ensures

pub bounds-configuration-2 : goal.bounds-configuration-2
bounds-configuration-2 c = omega (arith, configuration_long _ (judged_fits _ _ c.in-Some.ensures))

pub bounds-configuration-3 : goal.bounds-configuration-3
bounds-configuration-3 c = omega (arith, configuration_long _ (judged_fits _ _ c.in-Some.ensures))

pub returns-then-not-fits : goal.returns-then-not-fits
returns-then-not-fits c = begin_waits _ _ _ _ c.in-Some.ensures c.if-total-memory.false _ c.narrow-count.ensures c.if-words-count.false _ c.fits.ensures c.if-not-fits.true _ c.refused-then-not-fits.ensures

pub write-requires : goal.write-requires
write-requires c = (c.if-words-count.false, startable _ (judged_fits _ _ c.in-Some.ensures) _ c.narrow-count.ensures)

pub returns : goal.returns
returns c = begun _ _ _ _ c.in-Some.ensures c.if-total-memory.false _ c.narrow-count.ensures c.if-words-count.false _ c.fits.ensures c.if-not-fits.false _ _ c.write.ensures (c.fill.ensures.after (λ y e. e))
