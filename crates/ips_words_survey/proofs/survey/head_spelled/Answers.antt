-- `survey::head_spelled` meets its contract. Assumes nothing.
use borrow.Author.Tests.{lt-ltb, le-ltb, le-leb, lt-leb}
use Rattle.ips_words.specs.Words.{GIVEN, head_spelled}
use Rattle.ips_words_survey.proofs.survey.head_spelled.Goals as goal

pub returns-then-words-le-GIVEN-2 : goal.returns-then-words-le-GIVEN-2
unfolding head_spelled
returns-then-words-le-GIVEN-2 c = rw (lt-ltb _ 256 c.if-words-lt-BYTE_VALUES.true, le-leb _ GIVEN c.if-words-le-GIVEN.true, le-leb _ GIVEN c.if-words-le-GIVEN-2.true)

pub returns-else-words-le-GIVEN-2 : goal.returns-else-words-le-GIVEN-2
unfolding head_spelled
returns-else-words-le-GIVEN-2 c = rw (lt-ltb _ 256 c.if-words-lt-BYTE_VALUES.true, le-leb _ GIVEN c.if-words-le-GIVEN.true, lt-leb _ GIVEN c.if-words-le-GIVEN-2.false)

pub returns-else-words-le-GIVEN : goal.returns-else-words-le-GIVEN
unfolding head_spelled
returns-else-words-le-GIVEN c = rw (lt-ltb _ 256 c.if-words-lt-BYTE_VALUES.true, lt-leb _ GIVEN c.if-words-le-GIVEN.false)

pub returns-else-words-lt-BYTE_VALUES : goal.returns-else-words-lt-BYTE_VALUES
unfolding head_spelled
returns-else-words-lt-BYTE_VALUES c = rw (le-ltb _ 256 c.if-words-lt-BYTE_VALUES.false)
