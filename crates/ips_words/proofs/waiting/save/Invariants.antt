use Rattle.ips_words.proofs.Entries.{Saving}
use Rattle.ips_words.proofs.waiting.save.Given as goal

abbrev pub invariant-loop-at : goal.invariant-loop-at
invariant-loop-at l = Saving l.initial.part l.entry-items l.part l.at
