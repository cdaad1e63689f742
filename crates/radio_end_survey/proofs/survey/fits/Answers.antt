-- `survey::fits` meets its contract. Assumes nothing.
use mathlib.Core.Path.{refl, sym, ◌∙◌}
use Rattle.radio_end_survey.proofs.Looking.{in_short, in_few, in_many, in_long, in_datalink, in_head, in_names, in_walk}
use Rattle.radio_end_survey.proofs.survey.fits.Goals as goal

pub returns-then-words-lt-HEAD : goal.returns-then-words-lt-HEAD
returns-then-words-lt-HEAD c = in_short _ c.if-words-lt-HEAD.true

pub returns-then-count-lt-FEWEST_CHANNELS : goal.returns-then-count-lt-FEWEST_CHANNELS
returns-then-count-lt-FEWEST_CHANNELS c = in_few _ _ refl c.if-count-lt-FEWEST_CHANNELS.true

pub returns-then-count-gt-MOST_CHANNELS : goal.returns-then-count-gt-MOST_CHANNELS
returns-then-count-gt-MOST_CHANNELS c = in_many _ _ refl c.if-count-gt-MOST_CHANNELS.true

pub returns-then-words-count : goal.returns-then-words-count
returns-then-words-count c = in_long _ _ refl c.if-words-count.true

pub returns-then-words-ge-BYTE_VALUES : goal.returns-then-words-ge-BYTE_VALUES
returns-then-words-ge-BYTE_VALUES c = in_datalink _ c.if-words-ge-BYTE_VALUES.true

pub returns-then-not-head_spelled : goal.returns-then-not-head_spelled
returns-then-not-head_spelled c = in_head _ (sym c.head_spelled.ensures ∙ c.if-not-head_spelled.true)

pub returns-then-not-names_fit : goal.returns-then-not-names_fit
returns-then-not-names_fit c = in_names _ (sym c.names_fit.ensures ∙ c.if-not-names_fit.true)

pub returns : goal.returns
returns c = c.walk.ensures ∙ in_walk _ _ refl c.if-words-count.false c.if-count-lt-FEWEST_CHANNELS.false c.if-count-gt-MOST_CHANNELS.false c.if-words-ge-BYTE_VALUES.false (sym c.head_spelled.ensures ∙ c.if-not-head_spelled.false) (sym c.names_fit.ensures ∙ c.if-not-names_fit.false)
