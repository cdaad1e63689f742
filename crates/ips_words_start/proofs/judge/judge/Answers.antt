-- `judge::judge` meets its contract: each way out is a law of `Judging`. Assumes nothing.
use mathlib.Core.Path.{refl, ◌∙◌}
use borrow.Author.Tests.{lt-leb}
use Rattle.quantity.specs.Limits.{FEWEST-CHANNELS, MOST-CHANNELS}
use mathlib.Core.Bool.{and-false}
use Rattle.ips_words_start.proofs.Judging.{judge_short, judge_count, judge_long, judge_datalink, judge_codes, judge_walk}
use Rattle.ips_words_start.proofs.judge.judge.Goals as goal

pub returns-then-configuration-lt-CONFIGURATION_HEAD : goal.returns-then-configuration-lt-CONFIGURATION_HEAD
returns-then-configuration-lt-CONFIGURATION_HEAD c = judge_short _ _ refl c.if-configuration-lt-CONFIGURATION_HEAD.true

pub returns-then-count-lt-FEWEST_CHANNELS : goal.returns-then-count-lt-FEWEST_CHANNELS
returns-then-count-lt-FEWEST_CHANNELS c = judge_count _ _ c.narrow-count.ensures (rw (lt-leb FEWEST-CHANNELS c.narrow-count.result c.if-count-lt-FEWEST_CHANNELS.true))

pub returns-then-count-gt-MOST_CHANNELS : goal.returns-then-count-gt-MOST_CHANNELS
returns-then-count-gt-MOST_CHANNELS c = judge_count _ _ c.narrow-count.ensures (rw (lt-leb c.narrow-count.result MOST-CHANNELS c.if-count-gt-MOST_CHANNELS.true, and-false))

pub returns-then-configuration-count : goal.returns-then-configuration-count
returns-then-configuration-count c = judge_long _ _ c.narrow-count.ensures c.if-configuration-count.true

pub returns-then-configuration-ge-BYTE_VALUES : goal.returns-then-configuration-ge-BYTE_VALUES
returns-then-configuration-ge-BYTE_VALUES c = judge_datalink _ _ c.narrow-count.ensures c.if-configuration-ge-BYTE_VALUES.true

pub returns-then-configuration-ge-BYTE_VALUES-2 : goal.returns-then-configuration-ge-BYTE_VALUES-2
returns-then-configuration-ge-BYTE_VALUES-2 c = judge_codes _ _ c.narrow-count.ensures c.if-configuration-ge-BYTE_VALUES-2.true

pub returns : goal.returns
returns c = c.walk.ensures ∙ judge_walk _ _ c.narrow-count.ensures c.if-configuration-count.false c.if-configuration-ge-BYTE_VALUES.false c.if-configuration-ge-BYTE_VALUES-2.false c.if-count-lt-FEWEST_CHANNELS.false c.if-count-gt-MOST_CHANNELS.false
