-- `shown::show_waiting` meets its contract. Assumes nothing.
use mathlib.Core.Path.{refl}
use Rattle.nespovarda.proofs.Showing.{none_waits, one_waits}
use Rattle.nespovarda.proofs.shown.show_waiting.Goals as goal

pub returns-then-queue-position : goal.returns-then-queue-position
returns-then-queue-position c = none_waits _ _ _ _ c.if-queue-position.true c.plain.ensures

pub returns : goal.returns
returns c = one_waits _ _ _ _ c.if-queue-position.false c.plain-2.ensures _ _ c.wide.ensures refl
