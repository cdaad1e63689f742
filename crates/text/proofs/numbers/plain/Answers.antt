-- `numbers::plain` meets its contract, by the size of the word. Assumes nothing.
use native.Mathlib.Omega.{arith}
use Rattle.text.proofs.Reading.{size_none, size_one, size_more}
use Rattle.text.specs.Numbers.{plain_of}
use Rattle.text.proofs.numbers.plain.Goals as goal

pub returns-then-word-eq0 : goal.returns-then-word-eq0
unfolding plain_of
returns-then-word-eq0 c = size_none _ _ _ _ c.if-word-eq0.true

pub returns-then-word-eq1 : goal.returns-then-word-eq1
unfolding plain_of
returns-then-word-eq1 c = size_one _ _ _ _ c.if-word-eq1.true

pub returns : goal.returns
unfolding plain_of
returns c = size_more _ _ _ _ (omega arith)
