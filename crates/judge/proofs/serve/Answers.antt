-- `serve` meets its contract: turn after turn, each on what the one before left. Assumes nothing.
use native.Mathlib.Omega.{arith}
use Rattle.records.proofs.Pieces.{going_start}
use Rattle.judge.specs.Serving.{no_tally}
use Rattle.judge.proofs.Serving.{judging, serving_end, serving_refused, serving_tired, serving_on}
use Rattle.judge.proofs.serve.Goals as goal

pub loop-before-init : goal.loop-before-init
loop-before-init g c = rw c.start-input.ensures (going_start (judging c.args.ports c.args.id) _ (1, c.args.words.now, no_tally))

pub returns-in-End : goal.returns-in-End
returns-in-End g c = serving_end c.loop-before.invariant (omega arith) c.turn-left.ensures c.in-End.is

pub loop-before-preserved : goal.loop-before-preserved
loop-before-preserved g c = serving_on c.loop-before.invariant (omega arith) c.turn-left.ensures c.in-Record.is c.turn-left.auto.buffer

pub returns-in-Refused : goal.returns-in-Refused
returns-in-Refused g c = serving_refused c.loop-before.invariant (omega arith) c.turn-left.ensures c.in-Refused.is

pub returns : goal.returns
returns g c = serving_tired c.loop-before.invariant (omega arith)
