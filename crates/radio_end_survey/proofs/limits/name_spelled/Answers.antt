-- `limits::name_spelled` meets its contract. Assumes nothing.
use borrow.Author.Tests.{eq-eqb, ne_eqb}
use Rattle.lent_messages.specs.Layout.{ABSENT}
use Rattle.radio_end_words.specs.Words.{name_spelled}
use Rattle.radio_end_survey.proofs.limits.name_spelled.Goals as goal

pub returns-then-value-eq0 : goal.returns-then-value-eq0
unfolding name_spelled
returns-then-value-eq0 c = rw (eq-eqb c.args.tag ABSENT c.if-tag-eq-ABSENT.true, eq-eqb c.args.value 0 c.if-value-eq0.true)

pub returns-else-value-eq0 : goal.returns-else-value-eq0
unfolding name_spelled
returns-else-value-eq0 c = rw (eq-eqb c.args.tag ABSENT c.if-tag-eq-ABSENT.true, ne_eqb c.args.value 0 c.if-value-eq0.false)

pub returns : goal.returns
unfolding name_spelled
returns c = rw (ne_eqb c.args.tag ABSENT c.if-tag-eq-ABSENT.false)
