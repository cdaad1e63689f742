-- `tables::current` meets its contract. Assumes nothing.
use mathlib.Core.Path.{◌∙◌}
use Rattle.radio_end_state.specs.State.{channel_at}
use Rattle.radio_end_words.specs.Words.{state_in}
use Rattle.radio_end_message.proofs.Filling.{kept_place}
use Rattle.radio_end_message.proofs.tables.current.Goals as goal

pub returns : goal.returns
unfolding channel_at
returns c = c.load.ensures ∙ kept_place (state_in c.args.words.now).channels c.args.at c.args.index c.args.channel c.if-at-index.false
