use Rattle.message_words.proofs.Saying.{Saying}
use Rattle.session_print.proofs.Showing.{entry_texts}
use Rattle.session_print.proofs.shown.waiting.Given as goal

abbrev pub invariant-loop-entry : goal.invariant-loop-entry
invariant-loop-entry l = Saying entry_texts l.entry-items l.initial.out l.initial.behind l.entry-index l.out l.behind
