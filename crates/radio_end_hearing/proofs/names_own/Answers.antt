-- `names_own` meets its contract. Assumes nothing.
use Rattle.radio_end_state.specs.Calls.{sequence_in}
use Rattle.radio_end_words.specs.Words.{state_in}
use Rattle.radio_end_hearing.proofs.Passing.{configured_is}
use Rattle.radio_end_hearing.proofs.names_own.Goals as goal

pub returns-in-None : goal.returns-in-None
unfolding sequence_in
returns-in-None c = rw c.in-None.is

pub returns-in-Some : goal.returns-in-Some
unfolding sequence_in
returns-in-Some c = rw c.in-Some.is (configured_is (state_in c.args.words.now) _ _ _ c.find.ensures c.count.ensures)
