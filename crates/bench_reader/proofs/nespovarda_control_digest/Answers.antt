-- `nespovarda_control_digest` meets its contract: what is read, folded. Assumes nothing.
use Rattle.std.proofs.Common.{sym, ◌∙◌}
use Rattle.read_control.specs.Message.{control_refused}
use Rattle.reader.proofs.Planes.{plane_refuses}
use Rattle.bench_reader.specs.Digests.{end_of}
use Rattle.bench_reader.proofs.nespovarda_control_digest.Goals as goal

pub returns-in-Err : goal.returns-in-Err
unfolding control_refused
returns-in-Err c =
    let args = c.args in
    rw (plane_refuses (end_of args.radio) (record { 0 = args.id }) args.datagram.now (sym c.plane.ensures ∙ c.in-Err.is)).0 c.refused.ensures
