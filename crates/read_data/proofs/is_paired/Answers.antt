-- `is_paired` tests number 10. Assumes nothing.
use Rattle.read_data.proofs.is_paired.Goals as goal

pub returns : goal.returns
returns c = rw (c.in-Some.is, c.in-Some-channel.is)
