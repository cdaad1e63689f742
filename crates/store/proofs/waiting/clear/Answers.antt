-- `waiting::clear` meets its contract. Assumes nothing.
use Rattle.std.proofs.Common.{refl}
use Rattle.store.proofs.Changes.{cleared}
use Rattle.store.proofs.waiting.clear.Goals as goal

pub returns : goal.returns
returns c = record { holds = cleared _ _ _ c.empty-queue.ensures (c.fill.ensures.after (λ y e. e)); moved_value = refl }
