-- `part::spelt` meets its contract: the bytes that `write` leaves are laid as a byte string. Assumes nothing.
use Rattle.message_words.proofs.Saying.{says_one}
use Rattle.message_words.proofs.part.spelt.Goals as goal

pub returns : goal.returns
returns c = rw (← c.write.ensures) (says_one c.put_bytes.ensures)
