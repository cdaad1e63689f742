-- `show_line` meets its contract: the channel, or refused. Assumes nothing.
use Rattle.station.proofs.Laws.{shows, shows_refused}
use Rattle.station.proofs.show_line.Goals as goal

pub returns-in-Ok : goal.returns-in-Ok
returns-in-Ok c = shows _ _ c.show.ensures c.in-Ok.is c.channel.ensures

pub returns-in-Err : goal.returns-in-Err
returns-in-Err c = shows_refused _ _ c.show.ensures c.in-Err.is c.refused.ensures
