-- `control::size` meets its contract. Assumes nothing.
use native.Mathlib.Omega.{arith}
use Rattle.writer.proofs.ControlMessage.{control_length}
use Rattle.writer.proofs.control.size.Goals as goal

pub returns : goal.returns
returns c = omega (arith, control_length c.args.message)
