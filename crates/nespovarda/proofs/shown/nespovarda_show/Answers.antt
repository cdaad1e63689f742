-- `shown::nespovarda_show` meets its contract. Assumes nothing.
use Rattle.nespovarda.proofs.Showing.{is_there, shows_channel, shows_refused}
use Rattle.nespovarda.proofs.shown.nespovarda_show.Goals as goal

pub returns-in-Ok : goal.returns-in-Ok
returns-in-Ok c = shows_channel _ _ _ _ (is_there _ _ _ c.find_channel-found.ensures _ c.in-Ok.is) _ _ c.plain.ensures _ c.show.ensures

pub returns-in-Err : goal.returns-in-Err
returns-in-Err c = shows_refused _ _ _ c.find_channel-found.ensures _ c.in-Err.is _ _ _ _ c.refused.ensures
