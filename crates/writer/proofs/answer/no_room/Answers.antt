-- `answer::no_room` meets its contract. Assumes nothing.
use borrow.Author.Tests.{lt-ltb, le-ltb}
use Rattle.writer.proofs.answer.no_room.Goals as goal

pub returns-then-room-size : goal.returns-then-room-size
returns-then-room-size c = rw (lt-ltb _ _ c.if-room-size.true)

pub returns-else-room-size : goal.returns-else-room-size
returns-else-room-size c = rw (le-ltb _ _ c.if-room-size.false)
