-- `option::lay_window` meets its contract, case by case. Assumes nothing.
use borrow.Author.Rules.{rules}
use Rattle.write_option.proofs.Laying.{room_for, laid_option, laid_nothing}
use Rattle.write_option.proofs.option.lay_window.Goals as goal

pub lay-requires : goal.lay-requires
lay-requires c = record { content_len_bound = search rules; content_in_bounds = room_for _ _ (rw (c.in-Some-Empty.is, rw c.in-Some-Empty.is at c.in-Some-Empty.field-0-is) at c.requires) }

pub lay_flow-requires : goal.lay_flow-requires
lay_flow-requires c = rw (c.in-Some-Given.is, rw c.in-Some-Given.is at c.in-Some-Given.field-0-is) at c.requires

pub returns-in-None : goal.returns-in-None
returns-in-None c = rw c.in-None.is (laid_nothing _)

pub returns-in-Some-Empty : goal.returns-in-Some-Empty
returns-in-Some-Empty c = rw (c.in-Some-Empty.is, rw c.in-Some-Empty.is at c.in-Some-Empty.field-0-is) (laid_option _ _ c.lay.ensures)

pub returns-in-Some-Given : goal.returns-in-Some-Given
returns-in-Some-Given c = rw (c.in-Some-Given.is, rw c.in-Some-Given.is at c.in-Some-Given.field-0-is) c.lay_flow.ensures
