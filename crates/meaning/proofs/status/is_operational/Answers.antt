-- `status::is_operational` meets its contract: absent, or as the code is. Assumes nothing.
use Rattle.meaning.proofs.status.is_operational.Goals as goal

pub returns-in-Some : goal.returns-in-Some
returns-in-Some c = rw c.in-Some.is c.is_code_operational.ensures
