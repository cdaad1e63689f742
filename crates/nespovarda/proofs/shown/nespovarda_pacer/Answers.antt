-- `shown::nespovarda_pacer` meets its contract. Assumes nothing.
use Rattle.nespovarda.proofs.Showing.{shows_pacer, pacer_refused}
use Rattle.nespovarda.proofs.shown.nespovarda_pacer.Goals as goal

pub returns-in-Ok : goal.returns-in-Ok
returns-in-Ok c = shows_pacer _ _ c.pacer.ensures _ _ _ c.in-Ok.is c.plain.ensures _ c.show_pacer.ensures

pub returns-in-Err : goal.returns-in-Err
returns-in-Err c = pacer_refused _ _ c.pacer.ensures _ _ _ c.in-Err.is c.refused.ensures
