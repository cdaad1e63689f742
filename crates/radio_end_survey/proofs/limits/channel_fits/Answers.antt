-- `limits::channel_fits` meets its contract. Assumes nothing.
use borrow.Author.Tests.{le-leb, lt-leb}
use mathlib.Core.Path.{sym, ◌∙◌}
use mathlib.Core.Bool.{and-false}
use Rattle.quantity.specs.Limits.{HIGHEST-STATUS}
use Rattle.radio_end_survey.proofs.Judging.{channel_is}
use Rattle.radio_end_survey.proofs.limits.channel_fits.Goals as goal

pub returns-then-not-setting_fits : goal.returns-then-not-setting_fits
returns-then-not-setting_fits c = rw (channel_is c.args.part.now, sym c.setting_fits.ensures ∙ c.if-not-setting_fits.true, and-false)

pub returns-then-part : goal.returns-then-part
returns-then-part c = rw (channel_is c.args.part.now, lt-leb _ HIGHEST-STATUS c.if-part.true, and-false, and-false)

pub returns : goal.returns
returns c = rw (channel_is c.args.part.now, sym c.is_spelled.ensures ∙ c.if-not-is_spelled.false, sym c.setting_fits.ensures ∙ c.if-not-setting_fits.false, le-leb _ HIGHEST-STATUS c.if-part.false) c.highest_fits.ensures
