-- `control::save_channel` meets its contract. Assumes nothing.
use native.Mathlib.Omega.{arith}
use Rattle.lent_messages.proofs.Saving.{channel_set}
use Rattle.lent_messages.proofs.control.save_channel.Goals as goal

pub returns : goal.returns
returns c = rw (c.window-opened.ensures, c.one-counted.ensures, c.one-state.ensures) (channel_set c.args.words.now c.args.from _ _ _ _ _ _ (omega arith))
