-- `echo::echoing` meets its contract, by the plane. Assumes nothing.
use mathlib.Core.Path.{ap}
use Rattle.std.specs.Prelude.{Ok}
use mathlib.Core.Path.{sym, ◌∙◌}
use Rattle.session_print.proofs.Planes.{says_control, says_data, says_refused_lem}
use Rattle.session_print.proofs.echo.echoing.Goals as goal

pub returns-in-Ok-Control : goal.returns-in-Ok-Control
returns-in-Ok-Control c = says_control _ _ _ _ _ (sym c.plane.ensures ∙ (c.in-Ok-Control.is ∙ ap Ok c.in-Ok-Control.field-0-is)) c.read.ensures c.control_echoed.ensures

pub returns-in-Ok-Data : goal.returns-in-Ok-Data
returns-in-Ok-Data c = says_data _ _ _ _ _ (sym c.plane.ensures ∙ (c.in-Ok-Data.is ∙ ap Ok c.in-Ok-Data.field-0-is)) c.read-in-Ok-Data.ensures c.packet.ensures c.data_echoed.ensures

pub returns-in-Err : goal.returns-in-Err
returns-in-Err c = says_refused_lem _ _ _ _ _ (sym c.plane.ensures ∙ c.in-Err.is) c.refused.ensures
