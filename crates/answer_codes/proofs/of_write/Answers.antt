-- `of_write` meets its contract, by the answer's case. Assumes nothing.
use Rattle.answer_codes.proofs.of_write.Goals as goal

pub returns-in-Ok : goal.returns-in-Ok
returns-in-Ok c = rw c.in-Ok.is c.counted.ensures

pub returns-in-Err : goal.returns-in-Err
returns-in-Err c = rw c.in-Err.is c.refused.ensures
