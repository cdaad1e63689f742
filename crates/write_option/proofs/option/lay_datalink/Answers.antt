-- `option::lay_datalink` meets its contract: a Datalink Identifier is laid, or nothing. Assumes nothing.
use borrow.Author.Rules.{rules}
use Rattle.write_option.proofs.Laying.{room_for, laid_option, laid_nothing}
use Rattle.write_option.proofs.option.lay_datalink.Goals as goal

pub lay-requires : goal.lay-requires
lay-requires c = record { content_len_bound = search rules; content_in_bounds = room_for _ _ (rw c.in-Some.is at c.requires) }

pub returns-in-None : goal.returns-in-None
returns-in-None c = rw c.in-None.is (laid_nothing _)

pub returns-in-Some : goal.returns-in-Some
returns-in-Some c = rw c.in-Some.is (laid_option _ _ c.lay.ensures)
