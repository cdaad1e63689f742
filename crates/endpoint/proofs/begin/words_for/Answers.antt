-- `begin::words_for` meets its contract. Assumes nothing.
use Rattle.endpoint.proofs.Showing.{needs_none, needs_many, needs_words}
use Rattle.endpoint.proofs.begin.words_for.Goals as goal

pub returns-then-channels-lt-FEWEST_CHANNELS : goal.returns-then-channels-lt-FEWEST_CHANNELS
returns-then-channels-lt-FEWEST_CHANNELS c = needs_none _ c.if-channels-lt-FEWEST_CHANNELS.true

pub returns-then-channels-gt-MOST_CHANNELS : goal.returns-then-channels-gt-MOST_CHANNELS
returns-then-channels-gt-MOST_CHANNELS c = needs_many _ c.if-channels-lt-FEWEST_CHANNELS.false c.if-channels-gt-MOST_CHANNELS.true

pub returns : goal.returns
returns c = needs_words _ c.if-channels-lt-FEWEST_CHANNELS.false c.if-channels-gt-MOST_CHANNELS.false
