-- `slot::flow_of` meets its contract. Assumes nothing.
use borrow.Author.Tests.{ne_eqb}
use Rattle.ips_words.specs.Words.{FREE, NO-WINDOW, flow_of}
use Rattle.ips_words.proofs.slot.flow_of.Goals as goal

pub returns-then-tag-eq-FREE : goal.returns-then-tag-eq-FREE
unfolding flow_of
returns-then-tag-eq-FREE c = rw c.if-tag-eq-FREE.true

pub returns-then-tag-eq-NO_WINDOW : goal.returns-then-tag-eq-NO_WINDOW
unfolding flow_of
returns-then-tag-eq-NO_WINDOW c = rw c.if-tag-eq-NO_WINDOW.true

pub returns : goal.returns
unfolding flow_of
returns c = rw (ne_eqb _ FREE c.if-tag-eq-FREE.false, ne_eqb _ NO-WINDOW c.if-tag-eq-NO_WINDOW.false, c.count.ensures)
