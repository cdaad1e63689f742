-- `shown::pacer` meets its contract: the parts, one behind another. Assumes nothing.
use Rattle.message_words.proofs.Saying.{says_then}
use Rattle.session_print.specs.Shown.{pacer_texts}
use Rattle.session_print.proofs.shown.pacer.Goals as goal

pub returns : goal.returns
unfolding pacer_texts
returns c = says_then c.labelled-clock.ensures c.paired.ensures
