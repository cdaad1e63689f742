-- `shown::nespovarda_waiting` meets its contract. Assumes nothing.
use Rattle.nespovarda.proofs.Showing.{is_there, few_wait, shows_waiting, shows_refused}
use Rattle.nespovarda.proofs.shown.nespovarda_waiting.Goals as goal

pub show_waiting-requires : goal.show_waiting-requires
show_waiting-requires c = few_wait _ _ _ _ (is_there _ _ _ c.find_channel-found.ensures _ c.in-Ok.is)

pub returns-in-Ok : goal.returns-in-Ok
returns-in-Ok c =
    let there = is_there _ _ _ c.find_channel-found.ensures _ c.in-Ok.is in
    shows_waiting _ _ _ _ there _ _ _ _ (rw c.narrow.ensures at c.show_waiting.ensures)

pub returns-in-Err : goal.returns-in-Err
returns-in-Err c = shows_refused _ _ _ c.find_channel-found.ensures _ c.in-Err.is _ _ _ _ c.refused.ensures
