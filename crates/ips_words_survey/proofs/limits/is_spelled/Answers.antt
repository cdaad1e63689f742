-- `limits::is_spelled` meets its contract. Assumes nothing.
use borrow.Author.Tests.{le-leb, lt-leb, lt-ltb, le-ltb}
use Prim.Native.Nat.{◌^◌}
use Rattle.ips_words.specs.Words.{CONTROLLED, GIVEN, IN-FORCE, spelled}
use Rattle.ips_words_survey.proofs.limits.is_spelled.Goals as goal

pub returns-then-part-lt-COUNT_VALUES : goal.returns-then-part-lt-COUNT_VALUES
unfolding spelled
returns-then-part-lt-COUNT_VALUES c = rw (le-leb _ CONTROLLED c.if-part-le-CONTROLLED.true, le-leb _ GIVEN c.if-part-le-GIVEN.true, lt-ltb _ 256 c.if-part-lt-BYTE_VALUES.true, le-leb _ IN-FORCE c.if-part-le-IN_FORCE.true, lt-ltb _ (2 ^ 32) c.if-part-lt-COUNT_VALUES.true)

pub returns-else-part-lt-COUNT_VALUES : goal.returns-else-part-lt-COUNT_VALUES
unfolding spelled
returns-else-part-lt-COUNT_VALUES c = rw (le-leb _ CONTROLLED c.if-part-le-CONTROLLED.true, le-leb _ GIVEN c.if-part-le-GIVEN.true, lt-ltb _ 256 c.if-part-lt-BYTE_VALUES.true, le-leb _ IN-FORCE c.if-part-le-IN_FORCE.true, le-ltb _ (2 ^ 32) c.if-part-lt-COUNT_VALUES.false)

pub returns-else-part-le-IN_FORCE : goal.returns-else-part-le-IN_FORCE
unfolding spelled
returns-else-part-le-IN_FORCE c = rw (le-leb _ CONTROLLED c.if-part-le-CONTROLLED.true, le-leb _ GIVEN c.if-part-le-GIVEN.true, lt-ltb _ 256 c.if-part-lt-BYTE_VALUES.true, lt-leb _ IN-FORCE c.if-part-le-IN_FORCE.false)

pub returns-else-part-lt-BYTE_VALUES : goal.returns-else-part-lt-BYTE_VALUES
unfolding spelled
returns-else-part-lt-BYTE_VALUES c = rw (le-leb _ CONTROLLED c.if-part-le-CONTROLLED.true, le-leb _ GIVEN c.if-part-le-GIVEN.true, le-ltb _ 256 c.if-part-lt-BYTE_VALUES.false)

pub returns-else-part-le-GIVEN : goal.returns-else-part-le-GIVEN
unfolding spelled
returns-else-part-le-GIVEN c = rw (le-leb _ CONTROLLED c.if-part-le-CONTROLLED.true, lt-leb _ GIVEN c.if-part-le-GIVEN.false)

pub returns-else-part-le-CONTROLLED : goal.returns-else-part-le-CONTROLLED
unfolding spelled
returns-else-part-le-CONTROLLED c = rw (lt-leb _ CONTROLLED c.if-part-le-CONTROLLED.false)
