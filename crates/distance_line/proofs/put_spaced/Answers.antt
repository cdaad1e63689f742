-- `put_spaced` meets its contract: the number has at most 10 digits, so there is room for it and the space. Assumes nothing.
use native.Mathlib.Omega.{arith}
use Rattle.text.proofs.Decimals.{decimal_most}
use Rattle.text.proofs.Writing.{lays_on}
use Rattle.distance_line.specs.Answer.{spaced}
use Rattle.distance_line.proofs.put_spaced.Goals as goal

pub returns : goal.returns
unfolding spaced
returns c =
    let short = decimal_most c.args.value 10 (omega arith) (omega arith) (omega arith) in
    lays_on c.put_number-end.ensures c.put.ensures (omega arith)
