-- `word::choice` meets its contract. Assumes nothing.
use Rattle.line_rows.specs.Rows.{choice_of}
use Rattle.line_rows.proofs.word.choice.Goals as goal

pub returns-then-spells : goal.returns-then-spells
unfolding choice_of
returns-then-spells c = rw (← c.spells.ensures, c.if-spells.true)

pub returns-then-spells-2 : goal.returns-then-spells-2
unfolding choice_of
returns-then-spells-2 c = rw (← c.spells.ensures, c.if-spells.false, ← c.spells-2.ensures, c.if-spells-2.true)

pub returns : goal.returns
unfolding choice_of
returns c = rw (← c.spells.ensures, c.if-spells.false, ← c.spells-2.ensures, c.if-spells-2.false)
