-- `slot::highest_of` meets its contract. Assumes nothing.
use borrow.Author.Tests.{ne_eqb}
use Rattle.radio_end_words.specs.Words.{UNHEARD, highest_of}
use Rattle.radio_end_words.proofs.slot.highest_of.Goals as goal

pub returns-then-tag-eq-UNHEARD : goal.returns-then-tag-eq-UNHEARD
unfolding highest_of
returns-then-tag-eq-UNHEARD c = rw c.if-tag-eq-UNHEARD.true

pub returns : goal.returns
unfolding highest_of
returns c = rw (ne_eqb _ UNHEARD c.if-tag-eq-UNHEARD.false)
