-- `option::lay_packet` meets its contract. Assumes nothing.
use Rattle.write_option.proofs.Laying.{room_for, laid_option}
use Rattle.write_option.proofs.option.lay_packet.Goals as goal

pub lay-requires : goal.lay-requires
lay-requires c = record { content_len_bound = c.requires.packet_len_bound; content_in_bounds = room_for _ _ c.requires.packet_in_bounds }

pub returns : goal.returns
returns c = laid_option _ _ c.lay.ensures
