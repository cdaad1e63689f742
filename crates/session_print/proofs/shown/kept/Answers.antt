-- `shown::kept` meets its contract: the parts, one behind another. Assumes nothing.
use Rattle.message_words.proofs.Saying.{says_one, says_then}
use Rattle.session_print.specs.Shown.{kept_texts}
use Rattle.session_print.proofs.shown.kept.Goals as goal

pub returns : goal.returns
unfolding kept_texts
returns c = says_then (says_one c.put-label.ensures) (says_then c.instance-linked.ensures c.context.ensures)
