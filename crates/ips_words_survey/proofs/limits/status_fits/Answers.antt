-- `limits::status_fits` meets its contract. Assumes nothing.
use borrow.Author.Tests.{ne_eqb}
use Rattle.ips_words.specs.Words.{ABSENT, status_of}
use Rattle.ips_words_survey.proofs.limits.status_fits.Goals as goal

pub returns-then-tag-eq-ABSENT : goal.returns-then-tag-eq-ABSENT
unfolding status_of
returns-then-tag-eq-ABSENT c = rw c.if-tag-eq-ABSENT.true

pub returns : goal.returns
unfolding status_of
returns c = rw (ne_eqb _ ABSENT c.if-tag-eq-ABSENT.false, c.from.ensures)
