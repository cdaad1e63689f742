-- `nespovarda_noted_digest` meets its contract, by the plane. Assumes nothing.
use mathlib.Core.Path.{ap}
use Rattle.std.specs.Prelude.{Ok}
use Rattle.std.proofs.Common.{sym, ◌∙◌}
use Rattle.read_control.specs.Message.{control_refused}
use Rattle.reader.proofs.Planes.{plane_refuses, control_of_data}
use Rattle.bench_reader.proofs.nespovarda_noted_digest.Goals as goal

pub returns-in-Ok-Data : goal.returns-in-Ok-Data
returns-in-Ok-Data c = rw (control_of_data _ _ _ (sym c.plane.ensures ∙ (c.in-Ok-Data.is ∙ ap Ok c.in-Ok-Data.field-0-is))) c.fault.ensures

pub returns-in-Err : goal.returns-in-Err
unfolding control_refused
returns-in-Err c = rw (plane_refuses _ _ _ (sym c.plane.ensures ∙ c.in-Err.is)).0 c.refused.ensures
