-- `strings::unpair` meets its contract: at each turn the bytes of the first n pairs are laid. Assumes nothing.
use native.Mathlib.Omega.{arith}
use mathlib.Core.Path.{sym, ◌∙◌}
use Rattle.text.proofs.Hexadecimal.{unpair_on, unpair_end, paired_bad, paired_end, paired_small}
use Rattle.text.proofs.strings.unpair.Goals as goal

pub returns-in_default : goal.returns-in_default
returns-in_default c =
    let k = c.loop-i.invariant in
    unpair_end k (omega arith) (paired_bad k.paired (omega arith) (sym c.pair.ensures ∙ c.in_default.is))

pub overflow_cast-out : goal.overflow_cast-out
overflow_cast-out c =
    let k = c.loop-i.invariant in
    record { fits = paired_small k.paired (omega arith) (sym c.pair.ensures ∙ c.in-Some.is) }

pub loop-i-preserved : goal.loop-i-preserved
loop-i-preserved c =
    let k = c.loop-i.invariant in
    unpair_on k (omega arith) (omega arith) (sym c.pair.ensures ∙ c.in-Some.is)

pub returns : goal.returns
returns c = let k = c.loop-i.invariant in unpair_end k (omega arith) (paired_end k.paired (omega arith))
