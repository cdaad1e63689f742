-- `reading::control_said` meets its contract, by the verdict. Assumes nothing.
use Rattle.message_words.proofs.Saying.{says_none}
use Rattle.session_print.proofs.reading.control_said.Goals as goal

pub returns-in-OtherPlane : goal.returns-in-OtherPlane
returns-in-OtherPlane c = rw c.in-OtherPlane.is (says_none _ _)
