-- `whole::control` meets its contract: the parts, one behind another. Assumes nothing.
use Rattle.message_words.specs.Phrases.{control_texts}
use Rattle.message_words.proofs.Saying.{says_one, says_then}
use Rattle.message_words.proofs.whole.control.Goals as goal

pub returns : goal.returns
unfolding control_texts
returns c =
    says_then (says_one c.put-plane.ensures)
    (says_then c.datalink-named.ensures (says_then c.instance-linked.ensures (says_then c.context-placed.ensures c.tables.ensures)))
