use Rattle.radio_end_start.proofs.Writing.{Writing}
use Rattle.radio_end_start.proofs.fresh.write_channels.Given as goal

abbrev pub invariant-loop-index : goal.invariant-loop-index
invariant-loop-index l = Writing l.configuration l.count l.initial.words l.words l.index
