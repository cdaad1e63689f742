-- `answer::of_pace` meets its contract. Assumes nothing.
use Rattle.nespovarda.proofs.answer.of_pace.Goals as goal

pub returns-in-Ok-Quiet : goal.returns-in-Ok-Quiet
returns-in-Ok-Quiet c = rw (c.in-Ok-Quiet.is, rw c.in-Ok-Quiet.is at c.in-Ok-Quiet.field-0-is) c.plain.ensures

pub returns-in-Ok-Due : goal.returns-in-Ok-Due
returns-in-Ok-Due c = rw (c.in-Ok-Due.is, rw c.in-Ok-Due.is at c.in-Ok-Due.field-0-is) c.plain-in-Ok-Due.ensures

pub returns-in-Ok-Silent : goal.returns-in-Ok-Silent
returns-in-Ok-Silent c = rw (c.in-Ok-Silent.is, rw c.in-Ok-Silent.is at c.in-Ok-Silent.field-0-is) c.plain-in-Ok-Silent.ensures

pub returns-in-Ok-DueSilent : goal.returns-in-Ok-DueSilent
returns-in-Ok-DueSilent c = rw (c.in-Ok-DueSilent.is, rw c.in-Ok-DueSilent.is at c.in-Ok-DueSilent.field-0-is) c.plain-in-Ok-DueSilent.ensures

pub returns-in-Err : goal.returns-in-Err
returns-in-Err c = rw c.in-Err.is c.refused.ensures
