-- `hear_slot` meets its contract. Assumes nothing.
use Rattle.ips_words_radio.specs.HeardWords.{heard_part}
use Rattle.ips_words_radio.proofs.hear_slot.Goals as goal

pub returns : goal.returns
unfolding heard_part
returns c = rw (c.hear_flow.ensures, c.hear_status.ensures)
