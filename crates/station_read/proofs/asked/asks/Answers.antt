-- `asked::asks` meets its contract, command by command. Assumes nothing.
use mathlib.Core.Path.{refl}
use native.Mathlib.Omega.{arith}
use borrow.Author.Tests.{ne_eqb}
use Rattle.line_rows.specs.Tables.{items_behind}
use Rattle.line_rows.specs.Places.{keyed_of, row_of_key}
use Rattle.station_read.specs.Lines.{HIGHEST-BYTE, START, HEAR, STATUS, CONTEXT, QUEUED, LINK, TELL, SHOW, asked_by}
use Rattle.station_read.proofs.Bounds.{below}
use Rattle.station_read.proofs.asked.asks.Goals as goal

pub status-requires : goal.status-requires
unfolding row_of_key keyed_of items_behind
status-requires c = let bounded = rw c.in-126948300911731.is at c.requires in record { n_bound = omega (arith, below STATUS 0 {most = HIGHEST-BYTE} refl bounded); n_bound_2 = omega (arith, below STATUS 1 {most = HIGHEST-BYTE} refl bounded) }

pub queued-requires : goal.queued-requires
unfolding row_of_key keyed_of items_behind
queued-requires c = omega (arith, below QUEUED 0 {most = HIGHEST-BYTE} refl (rw c.in-110386924057969.is at c.requires))

pub link-requires : goal.link-requires
unfolding row_of_key keyed_of items_behind
link-requires c = omega (arith, below LINK 0 {most = HIGHEST-BYTE} refl (rw c.in-1802398060.is at c.requires))

pub show-requires : goal.show-requires
unfolding row_of_key keyed_of items_behind
show-requires c = omega (arith, below SHOW 0 {most = HIGHEST-BYTE} refl (rw c.in-2003789939.is at c.requires))

pub returns-in-500135195763 : goal.returns-in-500135195763
unfolding asked_by
returns-in-500135195763 c = rw c.in-500135195763.is

pub returns-in-1918985576 : goal.returns-in-1918985576
unfolding asked_by
returns-in-1918985576 c = rw c.in-1918985576.is

pub returns-in-126948300911731 : goal.returns-in-126948300911731
unfolding asked_by
returns-in-126948300911731 c = rw c.in-126948300911731.is c.status.ensures

pub returns-in-32783474438860643 : goal.returns-in-32783474438860643
unfolding asked_by
returns-in-32783474438860643 c = rw c.in-32783474438860643.is

pub returns-in-110386924057969 : goal.returns-in-110386924057969
unfolding asked_by
returns-in-110386924057969 c = rw c.in-110386924057969.is c.queued.ensures

pub returns-in-1802398060 : goal.returns-in-1802398060
unfolding asked_by
returns-in-1802398060 c = rw c.in-1802398060.is c.link.ensures

pub returns-in-1819043188 : goal.returns-in-1819043188
unfolding asked_by
returns-in-1819043188 c = rw c.in-1819043188.is

pub returns-in-2003789939 : goal.returns-in-2003789939
unfolding asked_by
returns-in-2003789939 c = rw c.in-2003789939.is c.show.ensures

pub returns-in_default : goal.returns-in_default
unfolding asked_by
returns-in_default c =
    simp
    (ne_eqb c.args.key START (omega arith), ne_eqb c.args.key HEAR (omega arith), ne_eqb c.args.key STATUS (omega arith), ne_eqb c.args.key CONTEXT (omega arith), ne_eqb c.args.key QUEUED (omega arith), ne_eqb c.args.key LINK (omega arith), ne_eqb c.args.key TELL (omega arith), ne_eqb c.args.key SHOW (omega arith))
