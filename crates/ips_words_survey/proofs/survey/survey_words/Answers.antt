-- `survey::survey_words` meets its contract: each way out is a law of `Looking`. Assumes nothing.
use mathlib.Core.Path.{sym, ◌∙◌}
use Rattle.ips_words_survey.proofs.Looking.{in_short, in_long, in_few, in_many, in_tags, in_head, in_walk}
use Rattle.ips_words_survey.proofs.survey.survey_words.Goals as goal

pub returns-then-words-lt-HEAD : goal.returns-then-words-lt-HEAD
returns-then-words-lt-HEAD c = in_short _ _ c.if-words-lt-HEAD.true

pub returns-then-count-lt-FEWEST_CHANNELS : goal.returns-then-count-lt-FEWEST_CHANNELS
returns-then-count-lt-FEWEST_CHANNELS c = in_few _ _ _ c.narrow-count.ensures c.if-count-lt-FEWEST_CHANNELS.true

pub returns-then-count-gt-MOST_CHANNELS : goal.returns-then-count-gt-MOST_CHANNELS
returns-then-count-gt-MOST_CHANNELS c = in_many _ _ _ c.narrow-count.ensures c.if-count-gt-MOST_CHANNELS.true

pub returns-then-words-count : goal.returns-then-words-count
returns-then-words-count c = in_long _ _ _ c.narrow-count.ensures c.if-words-count.true

pub returns-then-not-head_spelled : goal.returns-then-not-head_spelled
returns-then-not-head_spelled c = in_tags _ _ (sym c.head_spelled.ensures ∙ c.if-not-head_spelled.true)

pub returns-then-not-head_fits : goal.returns-then-not-head_fits
returns-then-not-head_fits c = in_head _ _ (sym c.head_fits.ensures ∙ c.if-not-head_fits.true)

pub returns : goal.returns
returns c =
    c.walk.ensures
    ∙ in_walk _ _ _ c.narrow-count.ensures c.if-words-count.false c.if-count-lt-FEWEST_CHANNELS.false c.if-count-gt-MOST_CHANNELS.false (sym c.head_spelled.ensures ∙ c.if-not-head_spelled.false)
    (sym c.head_fits.ensures ∙ c.if-not-head_fits.false)
