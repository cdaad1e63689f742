-- `limits::channel_fits` meets its contract. Assumes nothing.
use mathlib.Core.Path.{sym, ◌∙◌}
use Rattle.ips_words_survey.proofs.Judging.{fits_in}
use Rattle.ips_words_survey.proofs.limits.channel_fits.Goals as goal

pub returns-else-flow_fits : goal.returns-else-flow_fits
returns-else-flow_fits c = rw (fits_in, sym c.is_spelled.ensures ∙ c.if-is_spelled.true, sym (rw c.narrow-size.ensures at c.setting_fits.ensures) ∙ c.if-setting_fits.true, sym c.status_fits.ensures ∙ c.if-status_fits.true, sym c.flow_fits.ensures ∙ c.if-flow_fits.false) c.if-flow_fits.false

pub returns-else-status_fits : goal.returns-else-status_fits
returns-else-status_fits c = rw (fits_in, sym c.is_spelled.ensures ∙ c.if-is_spelled.true, sym (rw c.narrow-size.ensures at c.setting_fits.ensures) ∙ c.if-setting_fits.true, sym c.status_fits.ensures ∙ c.if-status_fits.false) c.if-status_fits.false

pub returns-else-setting_fits : goal.returns-else-setting_fits
returns-else-setting_fits c = rw (fits_in, sym c.is_spelled.ensures ∙ c.if-is_spelled.true, sym (rw c.narrow-size.ensures at c.setting_fits.ensures) ∙ c.if-setting_fits.false) c.if-setting_fits.false

pub returns-then-flow_fits : goal.returns-then-flow_fits
returns-then-flow_fits c = rw (fits_in, sym c.is_spelled.ensures ∙ c.if-is_spelled.true, sym (rw c.narrow-size.ensures at c.setting_fits.ensures) ∙ c.if-setting_fits.true, sym c.status_fits.ensures ∙ c.if-status_fits.true, sym c.flow_fits.ensures ∙ c.if-flow_fits.true) (rw c.narrow-size.ensures at c.well_formed-then-flow_fits.ensures)
