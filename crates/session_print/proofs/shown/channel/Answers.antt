-- `shown::channel` meets its contract: the parts, one behind another. Assumes nothing.
use Rattle.message_words.proofs.Saying.{says_then}
use Rattle.session_print.specs.Shown.{channel_texts}
use Rattle.session_print.proofs.shown.channel.Goals as goal

pub returns : goal.returns
unfolding channel_texts
returns c =
    says_then c.labelled-named.ensures
    (says_then c.status-reported.ensures
    (says_then c.flow-ruled.ensures
    (says_then c.labelled-counted.ensures (says_then c.labelled-timed.ensures c.waiting.ensures))))
