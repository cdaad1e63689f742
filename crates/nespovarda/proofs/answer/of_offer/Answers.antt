-- `answer::of_offer` meets its contract. Assumes nothing.
use Rattle.nespovarda.proofs.answer.of_offer.Goals as goal

pub returns-in-Ok : goal.returns-in-Ok
returns-in-Ok c = rw c.in-Ok.is c.plain.ensures

pub returns-in-Err : goal.returns-in-Err
returns-in-Err c = rw c.in-Err.is c.refused.ensures
