-- `option::lay_context` meets its contract: a Datalink Context is laid, or nothing. Assumes nothing.
use Rattle.write_option.proofs.Laying.{laid_nothing}
use Rattle.write_option.proofs.option.lay_context.Goals as goal

pub returns-in-None : goal.returns-in-None
returns-in-None c = rw c.in-None.is (laid_nothing _)

pub returns-in-Some : goal.returns-in-Some
returns-in-Some c = rw c.in-Some.is c.lay_number.ensures
