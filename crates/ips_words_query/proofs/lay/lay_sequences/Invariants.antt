use Rattle.ips_words_query.proofs.Laying.{Going}
use Rattle.ips_words_query.proofs.lay.lay_sequences.Given as goal

abbrev pub invariant-loop-content : goal.invariant-loop-content
invariant-loop-content l = Going l.contents l.initial.out l.content-index l.at l.out
