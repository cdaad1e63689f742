-- `strings::readable` meets its contract, by the size of the word. Assumes nothing.
use native.Mathlib.Omega.{arith}
use mathlib.Core.Path.{ap, ◌∙◌}
use Prim.Native.Nat.{ℕ, ◌*◌}
use lib.Dec.{eqb}
use lib.ListN.{length}
use Rattle.text.specs.Strings.{readable_of}
use Rattle.text.proofs.Hexadecimal.{pairs_most}
use Rattle.text.proofs.Reading.{size_none, size_one, size_more}
use Rattle.text.proofs.strings.readable.Goals as goal

pub returns-then-word-eq0 : goal.returns-then-word-eq0
unfolding readable_of
returns-then-word-eq0 c = size_none _ _ _ _ c.if-word-eq0.true

pub returns-then-word-eq1 : goal.returns-then-word-eq1
unfolding readable_of
returns-then-word-eq1 c = size_one _ _ _ _ c.if-word-eq1.true

pub overflow_mul-result : goal.overflow_mul-result
overflow_mul-result c = omega (arith, c.pairs.ensures, pairs_most c.args.word.now)

pub returns : goal.returns
unfolding readable_of
returns c =
    let word = c.args.word.now in
    ap (λ (n : ℕ). eqb (n * 2) (length word)) c.pairs.ensures ∙ size_more _ _ _ word (omega arith)
