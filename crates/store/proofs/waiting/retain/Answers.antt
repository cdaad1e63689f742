-- `waiting::retain` meets its contract: the parts of the change together are `retained`. Assumes nothing.
use Rattle.store.proofs.Changes.{retained}
use Rattle.store.proofs.Moved.{retained_moves}
use Rattle.store.proofs.waiting.retain.Goals as goal

pub returns : goal.returns
returns c =
    let packed = c.compact-compacted.ensures.end_in_bounds in
    record {
      holds = retained _ _ _ _ _ c.requires _ _ _ _ c.compact-compacted.auto.store packed.0 packed.1 (c.fill.ensures.after (λ y e. e)) c.keep-queue.ensures;
      moved_value = retained_moves _ _ _ _ _ c.requires _ c.compact-compacted.ensures.moved_value;
    }
