-- `option::lay_number` meets its contract: the number's bytes are the option's content. Assumes nothing.
use Rattle.write_option.proofs.Laying.{room_for, laid_option, content_is}
use Rattle.write_option.proofs.option.lay_number.Goals as goal

pub lay-requires-clause-content_in_bounds : goal.lay-requires-clause-content_in_bounds
lay-requires-clause-content_in_bounds c = rw (content_is _ _ _ _ c.requires.size_bound c.write.ensures) (room_for _ _ c.requires.number_in_bounds)

pub returns : goal.returns
returns c = laid_option _ _ (rw (content_is _ _ _ _ c.requires.size_bound c.write.ensures) at c.lay.ensures)
