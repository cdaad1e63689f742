-- `option::lay_flow` meets its contract: the Channel ID and the number's bytes are the option's content. Assumes nothing.
use native.Mathlib.Omega.{arith}
use Rattle.write_option.proofs.Laying.{room_for, laid_option, flow_is, flow_size}
use Rattle.write_option.proofs.option.lay_flow.Goals as goal

pub slice_bounds-lay-end : goal.slice_bounds-lay-end
slice_bounds-lay-end c = flow_size c.args.channel _ _ c.write.ensures

pub lay-requires : goal.lay-requires
lay-requires c =
    let written = c.write.ensures in
    let size = flow_size c.args.channel _ _ written in
    record { content_len_bound = omega arith; content_in_bounds = room_for _ _ (rw (← flow_is _ _ _ written) at c.requires) }

pub returns : goal.returns
returns c = laid_option _ _ (rw (flow_is _ _ _ c.write.ensures) at c.lay.ensures)
