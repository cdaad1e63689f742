-- `asked_line` meets its contract, case by case. Assumes nothing.
use mathlib.Core.Path.{refl}
use Rattle.station.proofs.asked_line.Goals as goal

pub returns-in-Bad : goal.returns-in-Bad
returns-in-Bad c = rw c.in-Bad.is (record { held = refl; calls = record { says = c.bad_line.ensures; words_are = refl } })

pub returns-in-Start : goal.returns-in-Start
returns-in-Start c = rw c.in-Start.is c.start_line.ensures

pub returns-in-State : goal.returns-in-State
returns-in-State c = rw c.in-State.is (record { held = refl; calls = c.state_line.ensures })
