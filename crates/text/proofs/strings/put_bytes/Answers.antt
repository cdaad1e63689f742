-- `strings::put_bytes` meets its contract: the empty byte string, those with no room, and the others. Assumes nothing.
use native.Mathlib.Omega.{arith}
use Rattle.text.proofs.Hexadecimal.{pairs_length, text_empty, text_pairs}
use Rattle.text.proofs.Writing.{lays_none, lays_as}
use Rattle.text.proofs.strings.put_bytes.Goals as goal

pub returns-then-bytes-eq0 : goal.returns-then-bytes-eq0
returns-then-bytes-eq0 c = lays_as (text_empty _ c.if-bytes-eq0.true) c.put.ensures

pub returns-then-at-out : goal.returns-then-at-out
returns-then-at-out c = lays_none _ _ _ (omega arith)

pub returns-then-bytes-out : goal.returns-then-bytes-out
returns-then-bytes-out c = lays_as (text_pairs _ (omega arith)) (lays_none _ _ _ (omega (arith, pairs_length c.args.bytes.now)))

pub returns : goal.returns
returns c = lays_as (text_pairs _ (omega arith)) c.put_pairs.ensures
