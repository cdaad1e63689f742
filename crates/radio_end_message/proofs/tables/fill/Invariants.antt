use Rattle.radio_end_words.specs.Words.{state_in}
use Rattle.radio_end_message.specs.Changed.{changed_channels}
use Rattle.radio_end_message.proofs.Filling.{Filling}
use Rattle.radio_end_message.proofs.tables.fill.Given as goal

abbrev pub invariant-loop-at : goal.invariant-loop-at
invariant-loop-at l = Filling (changed_channels (state_in l.words) l.index l.channel l.sequences) l.statuses l.windows l.at
