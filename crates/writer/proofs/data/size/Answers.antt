-- `data::size` meets its contract. Assumes nothing.
use native.Mathlib.Omega.{arith}
use Rattle.writer.proofs.DataMessage.{data_length}
use Rattle.writer.proofs.data.size.Goals as goal

pub returns : goal.returns
returns c = omega (arith, data_length c.args.message c.args.packet.now)
