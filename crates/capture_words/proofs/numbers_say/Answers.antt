-- `numbers_say` meets its contract, test by test. Assumes nothing.
use mathlib.Core.Path.{◌∙◌}
use Rattle.capture_words.proofs.Exactly.{radio_over, ips_over, datalink_over, ports_equal, numbers_taken}
use Rattle.capture_words.proofs.numbers_say.Goals as goal

pub returns-then-radio-gt-HIGHEST_PORT : goal.returns-then-radio-gt-HIGHEST_PORT
returns-then-radio-gt-HIGHEST_PORT c = c.refused.ensures ∙ radio_over _ _ _ c.if-radio-gt-HIGHEST_PORT.true

pub returns-then-ips-gt-HIGHEST_PORT : goal.returns-then-ips-gt-HIGHEST_PORT
returns-then-ips-gt-HIGHEST_PORT c = c.refused-then-ips-gt-HIGHEST_PORT.ensures ∙ ips_over _ _ _ c.if-radio-gt-HIGHEST_PORT.false c.if-ips-gt-HIGHEST_PORT.true

pub returns-then-datalink-gt-HIGHEST_DATALINK : goal.returns-then-datalink-gt-HIGHEST_DATALINK
returns-then-datalink-gt-HIGHEST_DATALINK c = c.refused-then-datalink-gt-HIGHEST_DATALINK.ensures ∙ datalink_over _ _ _ c.if-radio-gt-HIGHEST_PORT.false c.if-ips-gt-HIGHEST_PORT.false c.if-datalink-gt-HIGHEST_DATALINK.true

pub returns-then-radio-ips : goal.returns-then-radio-ips
returns-then-radio-ips c = c.refused-then-radio-ips.ensures ∙ ports_equal _ _ _ c.if-radio-gt-HIGHEST_PORT.false c.if-ips-gt-HIGHEST_PORT.false c.if-datalink-gt-HIGHEST_DATALINK.false c.if-radio-ips.true

pub returns : goal.returns
returns c = c.made.ensures ∙ numbers_taken _ _ _ c.if-radio-gt-HIGHEST_PORT.false c.if-ips-gt-HIGHEST_PORT.false c.if-datalink-gt-HIGHEST_DATALINK.false c.if-radio-ips.false
