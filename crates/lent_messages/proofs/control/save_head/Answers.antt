-- `control::save_head` meets its contract. Assumes nothing.
use native.Mathlib.Omega.{arith}
use Rattle.lent_messages.proofs.Saving.{head_set}
use Rattle.lent_messages.proofs.control.save_head.Goals as goal

pub returns : goal.returns
returns c = rw (c.context-told.ensures, c.instance-named.ensures, c.one-link.ensures) (head_set c.args.words.now _ _ _ _ _ _ _ _ (omega arith))
