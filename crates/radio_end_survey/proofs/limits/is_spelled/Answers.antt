-- `limits::is_spelled` meets its contract. Assumes nothing.
use borrow.Author.Tests.{le-leb, lt-leb}
use Rattle.radio_end_words.specs.Words.{CONTROLLED, spelled}
use Rattle.radio_end_survey.proofs.limits.is_spelled.Goals as goal

pub returns-then-part-le-CONTROLLED : goal.returns-then-part-le-CONTROLLED
unfolding spelled
returns-then-part-le-CONTROLLED c = rw (le-leb _ CONTROLLED c.if-part-le-CONTROLLED.true) c.highest_spelled.ensures

pub returns-else-part-le-CONTROLLED : goal.returns-else-part-le-CONTROLLED
unfolding spelled
returns-else-part-le-CONTROLLED c = rw (lt-leb _ CONTROLLED c.if-part-le-CONTROLLED.false)
