-- `reader::data::read` is the definition of reading a data message: 1, 2, then the options. Assumes nothing.
use mathlib.Core.Path.{ap}
use Rattle.std.specs.Prelude.{Ok}
use mathlib.Core.Path.{sym, ◌∙◌}
use Rattle.read_data.specs.Message.{data_other}
use Rattle.reader.specs.Readings.{read_data}
use Rattle.reader.proofs.Planes.{by_plane_lem}
use Rattle.reader.proofs.data.read.Goals as goal

pub returns-in-Err : goal.returns-in-Err
unfolding read_data
returns-in-Err c = c.refused.ensures ∙ by_plane_lem _ _ (sym c.plane.ensures ∙ c.in-Err.is)

pub returns-in-Ok-Control : goal.returns-in-Ok-Control
unfolding read_data data_other
returns-in-Ok-Control c = rw c.blank.ensures (by_plane_lem _ _ (sym c.plane.ensures ∙ (c.in-Ok-Control.is ∙ ap Ok c.in-Ok-Control.field-0-is)))

pub returns-in-Ok-Data : goal.returns-in-Ok-Data
unfolding read_data
returns-in-Ok-Data c = c.options.ensures ∙ by_plane_lem _ _ (sym c.plane.ensures ∙ (c.in-Ok-Data.is ∙ ap Ok c.in-Ok-Data.field-0-is))
