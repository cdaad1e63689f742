-- `part::datalink` meets its contract: a Datalink ID is said, or nothing. Assumes nothing.
use Rattle.message_words.proofs.Saying.{says_none}
use Rattle.message_words.proofs.part.datalink.Goals as goal

pub returns-in_default : goal.returns-in_default
returns-in_default c = rw c.in_default.is (says_none _ _)
