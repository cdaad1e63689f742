-- `control::read` meets its contract, by the plane of the datagram. Assumes nothing.
use mathlib.Core.Path.{ap}
use Rattle.std.specs.Prelude.{Ok}
use mathlib.Core.Path.{sym, ◌∙◌}
use Rattle.read_control.specs.Message.{control_other}
use Rattle.reader.specs.Readings.{read_control}
use Rattle.reader.proofs.Planes.{by_plane_lem}
use Rattle.reader.proofs.control.read.Goals as goal

pub returns-in-Ok-Control : goal.returns-in-Ok-Control
unfolding read_control
returns-in-Ok-Control c = c.options.ensures ∙ by_plane_lem _ _ (sym c.plane.ensures ∙ (c.in-Ok-Control.is ∙ ap Ok c.in-Ok-Control.field-0-is))

pub returns-in-Ok-Data : goal.returns-in-Ok-Data
unfolding read_control control_other
returns-in-Ok-Data c = rw c.blank.ensures (by_plane_lem _ _ (sym c.plane.ensures ∙ (c.in-Ok-Data.is ∙ ap Ok c.in-Ok-Data.field-0-is)))

pub returns-in-Err : goal.returns-in-Err
unfolding read_control
returns-in-Err c = c.refused.ensures ∙ by_plane_lem _ _ (sym c.plane.ensures ∙ c.in-Err.is)
