-- `head::given_of` meets its contract. Assumes nothing.
use borrow.Author.Tests.{ne_eqb}
use Rattle.ips_words.specs.Words.{ABSENT}
use Rattle.ips_words.proofs.head.given_of.Goals as goal

pub returns-then-tag-eq-ABSENT : goal.returns-then-tag-eq-ABSENT
returns-then-tag-eq-ABSENT g c = rw c.if-tag-eq-ABSENT.true

pub returns : goal.returns
returns g c = rw (ne_eqb _ ABSENT c.if-tag-eq-ABSENT.false, c.narrow.ensures)
