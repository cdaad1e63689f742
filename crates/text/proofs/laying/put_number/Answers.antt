-- `laying::put_number` meets its contract: what `io::decimal` writes is the number in decimal. Assumes nothing.
use native.Mathlib.Omega.{arith}
use mathlib.Core.Path.{◌∙◌}
use Rattle.text.proofs.Decimals.{decimal_is}
use Rattle.text.proofs.Writing.{lays_as}
use Rattle.text.proofs.laying.put_number.Goals as goal

pub returns : goal.returns
returns c = lays_as (c.decimal-n.ensures.digits ∙ decimal_is c.args.value c.decimal-n.result (omega arith) c.decimal-n.ensures.len) c.put.ensures
