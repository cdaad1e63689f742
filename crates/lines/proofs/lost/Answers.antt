use Rattle.std.proofs.Common.{arith}
use Rattle.std.proofs.lemmas.Bool.{eq-eqb, ne_eqb}
use Rattle.lines.specs.Unread.{lost_of}
use Rattle.lines.proofs.lost.Goals as goal

pub returns-then-input : goal.returns-then-input
unfolding lost_of
returns-then-input c = rw c.if-input.true

pub returns-then-input-gt0 : goal.returns-then-input-gt0
unfolding lost_of
returns-then-input-gt0 c = rw (c.if-input.false, ne_eqb c.args.input.at 0 (omega arith))

pub returns : goal.returns
unfolding lost_of
returns c = rw (c.if-input.false, eq-eqb c.args.input.at 0 (omega arith))
