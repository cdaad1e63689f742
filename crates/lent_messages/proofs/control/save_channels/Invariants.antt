use lib.ListN.{take}
use Rattle.lent_messages.specs.Layout.{CONTROL-HEAD}
use Rattle.lent_messages.specs.Words.{words_at}
use Rattle.lent_messages.proofs.Saving.{Going}
use Rattle.lent_messages.proofs.control.save_channels.Given as goal

abbrev pub invariant-loop-id : goal.invariant-loop-id
invariant-loop-id l = Going (words_at l.statuses l.sequences l.windows) (take CONTROL-HEAD l.initial.words) l.words l.id
