-- `waiting::pop` meets its contract. Assumes nothing.
use Rattle.store.proofs.Moved.{behind_first, popped_moves}
use Rattle.store.proofs.waiting.pop.Goals as goal

pub retain-requires : goal.retain-requires
retain-requires c = behind_first _ _ _ _ c.requires c.first-front.ensures

pub returns : goal.returns
returns c = record { holds = rw (c.first-front.ensures.rest _) at c.retain.ensures.holds; moved_value = popped_moves _ _ _ _ c.requires c.first-front.ensures _ c.retain.ensures.moved_value }
