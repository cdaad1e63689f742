-- `survey::head_spelled` meets its contract. Assumes nothing.
use mathlib.Core.Path.{sym, ◌∙◌}
use Rattle.radio_end_words.specs.Words.{head_spelled}
use Rattle.radio_end_survey.proofs.survey.head_spelled.Goals as goal

pub returns-then-name_spelled : goal.returns-then-name_spelled
unfolding head_spelled
returns-then-name_spelled c = rw (sym c.name_spelled.ensures ∙ c.if-name_spelled.true) c.name_spelled-then-name_spelled.ensures

pub returns-else-name_spelled : goal.returns-else-name_spelled
unfolding head_spelled
returns-else-name_spelled c = rw (sym c.name_spelled.ensures ∙ c.if-name_spelled.false) c.if-name_spelled.false
