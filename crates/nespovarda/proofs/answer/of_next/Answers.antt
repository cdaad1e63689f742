-- `answer::of_next` meets its contract. Assumes nothing.
use Rattle.nespovarda.proofs.answer.of_next.Goals as goal

pub returns-in-Ok-Sent : goal.returns-in-Ok-Sent
returns-in-Ok-Sent c = rw (c.in-Ok-Sent.is, rw c.in-Ok-Sent.is at c.in-Ok-Sent.field-0-is) c.counted.ensures

pub returns-in-Ok-NothingWaiting : goal.returns-in-Ok-NothingWaiting
returns-in-Ok-NothingWaiting c = rw (c.in-Ok-NothingWaiting.is, rw c.in-Ok-NothingWaiting.is at c.in-Ok-NothingWaiting.field-0-is) c.plain.ensures

pub returns-in-Ok-NotOperational : goal.returns-in-Ok-NotOperational
returns-in-Ok-NotOperational c = rw (c.in-Ok-NotOperational.is, rw c.in-Ok-NotOperational.is at c.in-Ok-NotOperational.field-0-is) c.plain-in-Ok-NotOperational.ensures

pub returns-in-Ok-WindowShut : goal.returns-in-Ok-WindowShut
returns-in-Ok-WindowShut c = rw (c.in-Ok-WindowShut.is, rw c.in-Ok-WindowShut.is at c.in-Ok-WindowShut.field-0-is) c.plain-in-Ok-WindowShut.ensures

pub returns-in-Err : goal.returns-in-Err
returns-in-Err c = rw c.in-Err.is c.refused.ensures
