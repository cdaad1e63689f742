-- `shown::nespovarda_kept` meets its contract. Assumes nothing.
use Rattle.nespovarda.proofs.Showing.{shows_kept, kept_refused}
use Rattle.nespovarda.proofs.shown.nespovarda_kept.Goals as goal

pub returns-in-Ok : goal.returns-in-Ok
returns-in-Ok c = shows_kept _ _ c.kept.ensures _ _ _ c.in-Ok.is c.plain.ensures _ c.show_kept.ensures

pub returns-in-Err : goal.returns-in-Err
returns-in-Err c = kept_refused _ _ c.kept.ensures _ _ _ c.in-Err.is c.refused.ensures
