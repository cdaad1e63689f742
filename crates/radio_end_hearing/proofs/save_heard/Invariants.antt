use Rattle.radio_end_words.specs.Words.{state_in}
use Rattle.radio_end_hearing.proofs.Passing.{Hearing}
use Rattle.radio_end_hearing.proofs.save_heard.Given as goal

abbrev pub invariant-loop-index : goal.invariant-loop-index
invariant-loop-index l = Hearing (state_in l.initial.words) l.message l.words l.index
