-- `answer::of_radio` meets its contract. Assumes nothing.
use Rattle.nespovarda.proofs.answer.of_radio.Goals as goal

pub returns-in-Ok-Accepted : goal.returns-in-Ok-Accepted
returns-in-Ok-Accepted c = rw (c.in-Ok-Accepted.is, rw c.in-Ok-Accepted.is at c.in-Ok-Accepted.field-0-is) c.plain.ensures

pub returns-in-Ok-Due : goal.returns-in-Ok-Due
returns-in-Ok-Due c = rw (c.in-Ok-Due.is, rw c.in-Ok-Due.is at c.in-Ok-Due.field-0-is) c.plain-in-Ok-Due.ensures

pub returns-in-Err : goal.returns-in-Err
returns-in-Err c = rw c.in-Err.is c.refused.ensures
