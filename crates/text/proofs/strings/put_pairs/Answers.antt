-- `strings::put_pairs` meets its contract: at each turn the first n bytes are laid. Assumes nothing.
use native.Mathlib.Omega.{arith}
use Rattle.text.proofs.Hexadecimal.{pairs_none, pairs_on}
use Rattle.text.proofs.strings.put_pairs.Goals as goal

pub loop-byte-init : goal.loop-byte-init
loop-byte-init c = pairs_none _ _ _ (omega arith)

pub loop-byte-preserved : goal.loop-byte-preserved
loop-byte-preserved c = pairs_on c.loop-byte.invariant (omega arith) c.requires c.put_byte-end.ensures
