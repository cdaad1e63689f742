-- `echo::control_echoed` meets its contract, by the verdict. Assumes nothing.
use Rattle.message_words.proofs.Saying.{says_none}
use Rattle.session_print.proofs.echo.control_echoed.Goals as goal

pub returns-in-OtherPlane : goal.returns-in-OtherPlane
returns-in-OtherPlane c = rw c.in-OtherPlane.is (says_none _ _)
