-- `echo::outcome` meets its contract, by the answer. Assumes nothing.
use Rattle.session_print.proofs.Writing.{says_written}
use Rattle.session_print.proofs.echo.outcome.Goals as goal

pub returns-in-Ok : goal.returns-in-Ok
returns-in-Ok c = rw c.in-Ok.is (says_written c.args.lent.now c.in-Ok.count.0 c.put-behind.ensures c.put_bytes.ensures)
