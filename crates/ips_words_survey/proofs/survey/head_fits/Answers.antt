-- `survey::head_fits` meets its contract. Assumes nothing.
use mathlib.Core.Path.{sym, ◌∙◌}
use Rattle.ips_state.specs.Limits.{head_fits}
use Rattle.ips_words_survey.proofs.survey.head_fits.Goals as goal

pub returns-then-names_fit : goal.returns-then-names_fit
unfolding head_fits
returns-then-names_fit c = rw (sym c.names_fit.ensures ∙ c.if-names_fit.true, ← c.pacer-kept.ensures) c.fits.ensures

pub returns-else-names_fit : goal.returns-else-names_fit
unfolding head_fits
returns-else-names_fit c = rw (sym c.names_fit.ensures ∙ c.if-names_fit.false) c.if-names_fit.false
