-- `carried_at` keeps the place of an accepted message alone. Assumes nothing.
use Rattle.read_data.proofs.carried_at.Goals as goal

pub returns-in-Accepted : goal.returns-in-Accepted
returns-in-Accepted c = rw c.in-Accepted.is

pub returns-in-OtherPlane : goal.returns-in-OtherPlane
returns-in-OtherPlane c = rw c.in-OtherPlane.is

pub returns-in-Refused : goal.returns-in-Refused
returns-in-Refused c = rw c.in-Refused.is
