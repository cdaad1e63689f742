-- `waiting::join` meets its contract. Assumes nothing.
use Rattle.store.proofs.Bytes.{rest_pasted}
use Rattle.store.proofs.waiting.join.Goals as goal

pub returns : goal.returns
returns c = record { value = c.append.ensures; store_after = rest_pasted _ _ _ _ c.copy.ensures.bytes }
