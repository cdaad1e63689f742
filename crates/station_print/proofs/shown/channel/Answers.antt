-- `shown::channel` meets its contract: the parts, one behind another. Assumes nothing.
use Rattle.message_words.proofs.Saying.{says_then}
use Rattle.station_print.specs.Shown.{channel_texts}
use Rattle.station_print.proofs.shown.channel.Goals as goal

pub returns : goal.returns
unfolding channel_texts
returns c = says_then c.labelled-named.ensures (says_then c.labelled-reported.ensures (says_then (rw c.window.ensures at c.window-granted.ensures) (says_then c.highest-heard.ensures c.labelled.ensures)))
