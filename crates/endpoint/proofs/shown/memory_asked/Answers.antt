-- `shown::memory_asked` meets its contract. Assumes nothing.
use Rattle.endpoint.proofs.Showing.{total_told, total_none}
use Rattle.endpoint.proofs.shown.memory_asked.Goals as goal

pub returns-in-Some : goal.returns-in-Some
returns-in-Some c = λ fits. total_told _ _ _ c.in-Some.ensures

pub returns-in-None : goal.returns-in-None
returns-in-None c = λ fits. total_none _ _ c.in-None.ensures _ fits
