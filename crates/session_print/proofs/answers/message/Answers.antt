-- `answers::message` meets its contract: the label, and the bytes behind it. Assumes nothing.
use native.Mathlib.Omega.{arith}
use Rattle.session_print.proofs.Showing.{message_part, message_all}
use Rattle.session_print.proofs.answers.message.Goals as goal

pub returns-then-count-lent : goal.returns-then-count-lent
returns-then-count-lent c = let args = c.args in message_part args.count args.lent.now c.put-behind.ensures c.put_bytes.ensures

pub returns : goal.returns
returns c =
    let args = c.args in
    message_all args.count args.lent.now c.put-behind.ensures (omega arith) c.put_bytes-2.ensures
