-- `kind::ips_control` meets its contract, arm by arm. Assumes nothing.
use Rattle.meaning.proofs.kind.ips_control.Goals as goal

pub returns-in-1 : goal.returns-in-1
returns-in-1 c = rw c.in-1.is

pub returns-in-134 : goal.returns-in-134
returns-in-134 c = rw c.in-134.is
