-- `start` meets its contract: each way out is a law of `Beginning`. Assumes nothing.
use mathlib.Core.Bool.{true}
use mathlib.Core.Path.{refl, ◌≡◌, sym, ◌∙◌}
use native.Mathlib.Omega.{arith}
use Rattle.radio_end_state.specs.Limits.{configuration_fits}
use Rattle.radio_end_start.specs.Start.{configuration_in}
use Rattle.radio_end_start.proofs.Beginning.{configuration_long, few_are, configured, startable, begin_unfit, begin_words, begin_large, begun}
use Rattle.radio_end_start.proofs.start.Goals as goal

pub returns-then-not-fits : goal.returns-then-not-fits
returns-then-not-fits c = begin_unfit _ _ _ c.fits.ensures (c.if-not-fits.true) _ c.refused.ensures

pub bounds-configuration-1 : goal.bounds-configuration-1
bounds-configuration-1 c = omega (arith, configuration_long _ ((let the_good : configuration_fits (configuration_in c.args.configuration.now) ≡ true = sym c.fits.ensures ∙ c.if-not-fits.false in the_good)))

pub overflow_mul-count : goal.overflow_mul-count
overflow_mul-count c = omega (arith, few_are _ ((let the_good : configuration_fits (configuration_in c.args.configuration.now) ≡ true = sym c.fits.ensures ∙ c.if-not-fits.false in the_good)))

pub overflow_add-count : goal.overflow_add-count
overflow_add-count c = omega (arith, few_are _ ((let the_good : configuration_fits (configuration_in c.args.configuration.now) ≡ true = sym c.fits.ensures ∙ c.if-not-fits.false in the_good)))

pub returns-then-words-count : goal.returns-then-words-count
returns-then-words-count c = begin_words _ _ _ c.fits.ensures (c.if-not-fits.false) _ refl c.if-words-count.true _ c.refused-then-words-count.ensures

pub allowances_fit-requires : goal.allowances_fit-requires
allowances_fit-requires c = configured _ ((let the_good : configuration_fits (configuration_in c.args.configuration.now) ≡ true = sym c.fits.ensures ∙ c.if-not-fits.false in the_good)) _ refl

pub returns-then-not-allowances_fit : goal.returns-then-not-allowances_fit
returns-then-not-allowances_fit c = begin_large _ _ _ c.fits.ensures (c.if-not-fits.false) _ refl c.if-words-count.false _ c.allowances_fit.ensures (c.if-not-allowances_fit.true) _ c.refused-then-not-allowances_fit.ensures

pub write-requires : goal.write-requires
write-requires c = (c.if-words-count.false, startable _ ((let the_good : configuration_fits (configuration_in c.args.configuration.now) ≡ true = sym c.fits.ensures ∙ c.if-not-fits.false in the_good)) _ refl)

pub returns : goal.returns
returns c = begun _ _ _ c.fits.ensures (c.if-not-fits.false) _ refl c.if-words-count.false _ c.allowances_fit.ensures (c.if-not-allowances_fit.false) _ c.write.ensures
