-- `strings::put_byte` meets its contract: what `io::hex` writes of a byte is two digits. Assumes nothing.
use native.Mathlib.Omega.{arith}
use mathlib.Core.Path.{◌∙◌}
use Rattle.text.proofs.Hexadecimal.{byte_is}
use Rattle.text.proofs.Writing.{lays_as}
use Rattle.text.proofs.strings.put_byte.Goals as goal

pub returns : goal.returns
returns c = lays_as (c.hex-n.ensures.digits ∙ byte_is c.args.byte c.hex-n.result (omega arith) c.hex-n.ensures.len) c.put.ensures
