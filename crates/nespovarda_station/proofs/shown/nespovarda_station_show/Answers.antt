-- `shown::nespovarda_station_show` meets its contract. Assumes nothing.
use Rattle.nespovarda_station.proofs.Showing.{shows_channel, shows_refused}
use Rattle.nespovarda_station.proofs.shown.nespovarda_station_show.Goals as goal

pub returns-in-Ok : goal.returns-in-Ok
returns-in-Ok c = shows_channel _ _ _ (rw c.in-Ok.is at c.show.ensures) _ _ c.plain.ensures _ c.show-in-Ok.ensures

pub returns-in-Err : goal.returns-in-Err
returns-in-Err c = shows_refused _ _ _ (rw c.in-Err.is at c.show.ensures) _ _ c.refused.ensures
