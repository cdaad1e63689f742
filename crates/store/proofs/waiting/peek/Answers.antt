-- `waiting::peek` meets its contract. Assumes nothing.
use Rattle.store.proofs.waiting.peek.Goals as goal

pub returns : goal.returns
returns c = c.first-front.ensures.first _
