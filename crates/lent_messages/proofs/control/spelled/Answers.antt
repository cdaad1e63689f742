-- `control::spelled` meets its contract. Assumes nothing.
use mathlib.Core.Path.{sym, ◌∙◌}
use borrow.Author.Tests.{eq-eqb, ne_eqb}
use Rattle.lent_messages.specs.Layout.{CONTROL-WORDS}
use Rattle.lent_messages.specs.Words.{control_spelled}
use Rattle.lent_messages.proofs.control.spelled.Goals as goal

pub returns-then-head_spelled : goal.returns-then-head_spelled
unfolding control_spelled
returns-then-head_spelled c = rw (eq-eqb _ CONTROL-WORDS c.if-words-eq-CONTROL_WORDS.true, sym c.head_spelled.ensures ∙ c.if-head_spelled.true) c.channels_spelled.ensures

pub returns-else-head_spelled : goal.returns-else-head_spelled
unfolding control_spelled
returns-else-head_spelled c = rw (eq-eqb _ CONTROL-WORDS c.if-words-eq-CONTROL_WORDS.true, sym c.head_spelled.ensures ∙ c.if-head_spelled.false) c.if-head_spelled.false

pub returns-else-words-eq-CONTROL_WORDS : goal.returns-else-words-eq-CONTROL_WORDS
unfolding control_spelled
returns-else-words-eq-CONTROL_WORDS c = rw (ne_eqb _ CONTROL-WORDS c.if-words-eq-CONTROL_WORDS.false)
