-- `judge::fits` meets its contract: each way out is a law of `Looking`. Assumes nothing.
use mathlib.Core.Path.{refl, ◌∙◌}
use Rattle.radio_end_start.proofs.Looking.{in_short, in_few, in_many, in_long, in_datalink, in_walk}
use Rattle.radio_end_start.proofs.judge.fits.Goals as goal

pub returns-then-configuration-lt-CONFIGURATION_HEAD : goal.returns-then-configuration-lt-CONFIGURATION_HEAD
returns-then-configuration-lt-CONFIGURATION_HEAD c = in_short _ c.if-configuration-lt-CONFIGURATION_HEAD.true

pub returns-then-count-lt-FEWEST_CHANNELS : goal.returns-then-count-lt-FEWEST_CHANNELS
returns-then-count-lt-FEWEST_CHANNELS c = in_few _ _ refl c.if-count-lt-FEWEST_CHANNELS.true

pub returns-then-count-gt-MOST_CHANNELS : goal.returns-then-count-gt-MOST_CHANNELS
returns-then-count-gt-MOST_CHANNELS c = in_many _ _ refl c.if-count-gt-MOST_CHANNELS.true

pub returns-then-configuration-count : goal.returns-then-configuration-count
returns-then-configuration-count c = in_long _ _ refl c.if-configuration-count.true

pub returns-then-configuration-ge-BYTE_VALUES : goal.returns-then-configuration-ge-BYTE_VALUES
returns-then-configuration-ge-BYTE_VALUES c = in_datalink _ c.if-configuration-ge-BYTE_VALUES.true

pub returns : goal.returns
returns c = c.walk.ensures ∙ in_walk _ _ refl c.if-configuration-count.false c.if-count-lt-FEWEST_CHANNELS.false c.if-count-gt-MOST_CHANNELS.false c.if-configuration-ge-BYTE_VALUES.false
