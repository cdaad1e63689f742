-- `read_record` meets its contract: each turn is one that `Passing` knows. Assumes nothing.
use Rattle.std.proofs.Common.{arith, sym, ◌∙◌}
use Rattle.records.specs.Reading.{ending, finding, refusing}
use Rattle.records.proofs.Pieces.{passing_start, passing_tired, passing_head, passing_fill}
use Rattle.records.proofs.read_record.Goals as goal
use Rattle.records.proofs.read_record.Goals.{in-More, in-Head}

pub loop-turn-init : goal.loop-turn-init
loop-turn-init g c = passing_start _ _

pub returns-in-End : goal.returns-in-End
returns-in-End g c = ending c.loop-turn.invariant.passed (sym c.next.ensures ∙ c.in-End.is)

pub loop-turn-preserved : goal.loop-turn-preserved
loop-turn-preserved g c =
    elim c.match-next.branch [
      | in-More w ↦ rw (w.buffer-is, w.at-is) (passing_fill c.loop-turn.invariant (sym c.next.ensures ∙ w.in-More.is) w.fill-at.ensures w.fill-at.auto.buffer)
      | in-Head w ↦ rw (w.buffer-is, w.at-is) (passing_head c.loop-turn.invariant (sym c.next.ensures ∙ w.in-Head.is))
    ]

pub returns-in-Record : goal.returns-in-Record
returns-in-Record g c = finding c.loop-turn.invariant.passed (sym c.next.ensures ∙ c.in-Record.is)

pub returns-in-Refused : goal.returns-in-Refused
returns-in-Refused g c = refusing c.loop-turn.invariant.passed (sym c.next.ensures ∙ c.in-Refused.is)

pub returns : goal.returns
returns g c = passing_tired c.loop-turn.invariant (omega arith)
