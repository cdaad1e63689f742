use Rattle.message_words.proofs.Saying.{Saying}
use Rattle.session_print.proofs.Handing.{placed_texts}
use Rattle.session_print.proofs.offers.handed.Given as goal

abbrev pub invariant-loop-number : goal.invariant-loop-number
invariant-loop-number l = Saying placed_texts l.answers l.initial.out l.initial.behind l.number-index l.out l.behind
