-- `serve` meets its contract: turn after turn, each on what the one before left. Assumes nothing.
use native.Mathlib.Omega.{arith}
use Rattle.records.proofs.Pieces.{going_start}
use Rattle.report.proofs.Serving.{counting, serving_end, serving_refused, serving_tired, serving_on}
use Rattle.report.proofs.serve.Goals as goal

pub loop-number-init : goal.loop-number-init
loop-number-init g c = rw c.start-input.ensures (going_start (counting c.args.ports c.args.id) _ _)

pub returns-in-End : goal.returns-in-End
returns-in-End g c = serving_end c.loop-number.invariant c.turn.ensures c.in-End.is

pub loop-number-preserved : goal.loop-number-preserved
loop-number-preserved g c = serving_on c.loop-number.invariant c.turn.ensures c.in-Record.is c.turn.auto.buffer

pub returns-in-Refused : goal.returns-in-Refused
returns-in-Refused g c = serving_refused c.loop-number.invariant c.turn.ensures c.in-Refused.is

pub returns : goal.returns
returns g c = serving_tired c.loop-number.invariant (omega arith)
