use Rattle.message_words.proofs.Saying.{Saying}
use Rattle.message_words.proofs.table.table.Given as goal

-- what the table states from this channel on is left to say
abbrev pub invariant-loop-channel : goal.invariant-loop-channel
invariant-loop-channel g l = Saying g.C.Worded.texts l.cells l.initial.out l.at l.channel l.out l.behind
