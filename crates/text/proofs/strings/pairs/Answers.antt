-- `strings::pairs` meets its contract: at each turn the first n pairs, from the start, stand for a byte. Assumes nothing.
use native.Mathlib.Omega.{arith}
use mathlib.Core.Path.{sym, ◌∙◌}
use Rattle.text.proofs.Hexadecimal.{paired_on, paired_bad, paired_end}
use Rattle.text.proofs.strings.pairs.Goals as goal

pub returns-in_default : goal.returns-in_default
returns-in_default c = sym (paired_bad c.loop-i.invariant (omega arith) (sym c.pair.ensures ∙ c.in_default.is))

pub loop-i-preserved : goal.loop-i-preserved
loop-i-preserved c = paired_on c.loop-i.invariant (omega arith) (sym c.pair.ensures ∙ c.in-Some.is)

pub returns : goal.returns
returns c = let end = paired_end c.loop-i.invariant (omega arith) in omega arith
