-- `limits::well_formed` meets its contract: the law of each turn is `Summing`'s. Assumes nothing.
use mathlib.Core.Bool.{and-false}
use borrow.Author.Tests.{le-leb, lt-leb}
use Rattle.quantity.specs.Limits.{SHORTEST-PACKET, LONGEST-PACKET}
use Rattle.ips_words_survey.proofs.Judging.{sum_many, sum_out, sum_on, sum_end}
use Rattle.ips_words_survey.proofs.limits.well_formed.Goals as goal

pub returns-then-count-gt-MOST_WAITING : goal.returns-then-count-gt-MOST_WAITING
returns-then-count-gt-MOST_WAITING c = sum_many _ _ c.narrow-count.ensures _ c.if-count-gt-MOST_WAITING.true

pub returns-then-length-lt-SHORTEST_PACKET : goal.returns-then-length-lt-SHORTEST_PACKET
returns-then-length-lt-SHORTEST_PACKET c = sum_out _ _ _ _ c.loop-at.invariant c.loop-at-test.true _ c.narrow-length.ensures _ (rw (lt-leb SHORTEST-PACKET _ c.if-length-lt-SHORTEST_PACKET.true))

pub returns-then-length-gt-LONGEST_PACKET : goal.returns-then-length-gt-LONGEST_PACKET
returns-then-length-gt-LONGEST_PACKET c = sum_out _ _ _ _ c.loop-at.invariant c.loop-at-test.true _ c.narrow-length.ensures _ (rw (lt-leb _ LONGEST-PACKET c.if-length-gt-LONGEST_PACKET.true, and-false))

pub loop-at-preserved : goal.loop-at-preserved
loop-at-preserved c =
    sum_on _ _ _ _ c.loop-at.invariant c.loop-at-test.true _ c.narrow-length.ensures
    (rw (le-leb SHORTEST-PACKET _ c.if-length-lt-SHORTEST_PACKET.false, le-leb _ LONGEST-PACKET c.if-length-gt-LONGEST_PACKET.false))

pub returns : goal.returns
returns c = sum_end _ _ _ _ c.loop-at.invariant c.loop-at-test.false _
