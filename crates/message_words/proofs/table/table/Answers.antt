-- `table::table` meets its contract: at each turn what is left to say gives the whole. Assumes nothing.
use native.Mathlib.Omega.{arith}
use Rattle.message_words.proofs.Saying.{saying_on, saying_end}
use Rattle.message_words.proofs.table.table.Goals as goal

pub loop-channel-preserved : goal.loop-channel-preserved
loop-channel-preserved g c = saying_on g.C.Worded.texts c.index-cells-channel.result c.loop-channel.invariant (omega arith) c.say-behind.ensures

pub returns : goal.returns
returns g c = saying_end g.C.Worded.texts c.loop-channel.invariant (omega arith)
