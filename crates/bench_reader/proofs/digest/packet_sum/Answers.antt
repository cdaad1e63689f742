-- `digest::packet_sum` meets its contract, with a last byte and without. Assumes nothing.
use Rattle.std.proofs.Common.{◌-◌, length, arith}
use lib.ListN.{get_or-eq_default}
use Rattle.bench_reader.specs.Digests.{packet_sum}
use Rattle.bench_reader.proofs.digest.packet_sum.Goals as goal

pub returns-then-n-eq0 : goal.returns-then-n-eq0
unfolding packet_sum
returns-then-n-eq0 c = rw (c.mix-then-n-eq0.ensures, c.mix.ensures, get_or-eq_default c.args.packet.now 0 {n = length c.args.packet.now - 1} (omega arith), c.if-n-eq0.true)
