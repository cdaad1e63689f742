-- `lay::lay_sequence` meets its contract: its frame and its content are one number. Assumes nothing.
use Rattle.ips_words_query.proofs.Laying.{sequence_room, sequence_laid}
use Rattle.ips_words_query.proofs.lay.lay_sequence.Goals as goal

pub slice_bounds-write-end : goal.slice_bounds-write-end
slice_bounds-write-end c = sequence_room _ c.requires.content_in_bounds

pub returns : goal.returns
returns c = sequence_laid _ _ _ c.requires.content_bound (sequence_room _ c.requires.content_in_bounds) c.write.ensures
