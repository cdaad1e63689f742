-- `option::lay_counted` meets its contract: a data message's Flow Sequence is laid, or nothing. Assumes nothing.
use Rattle.write_option.proofs.Laying.{laid_nothing}
use Rattle.write_option.proofs.option.lay_counted.Goals as goal

pub lay_flow-requires : goal.lay_flow-requires
lay_flow-requires c = rw c.in-Some.is at c.requires

pub returns-in-None : goal.returns-in-None
returns-in-None c = rw c.in-None.is (laid_nothing _)

pub returns-in-Some : goal.returns-in-Some
returns-in-Some c = rw c.in-Some.is c.lay_flow.ensures
