-- `radio::read` meets its contract. Assumes nothing.
use mathlib.Core.Path.{◌∙◌, ap}
use Rattle.std.specs.Prelude.{Ok}
use mathlib.Core.Path.{◌≡◌, refl}
use Rattle.ips_state.specs.State.{State}
use Rattle.ips_words.specs.Words.{state_in}
use Rattle.ips_words_query.proofs.Gathering.{said_head}
use Rattle.endpoint.proofs.Placing.{says_so}
use Rattle.endpoint.proofs.Hearing.{read_control_lem, read_data_lem, read_refused}
use Rattle.endpoint.proofs.radio.read.Goals as goal

pub datalink-datalink-requires : goal.datalink-datalink-requires
datalink-datalink-requires c = said_head _ c.requires

pub returns-in-Ok-Control : goal.returns-in-Ok-Control
returns-in-Ok-Control c = read_control_lem _ _ _ _ _ c.plane.ensures _ (c.in-Ok-Control.is ∙ ap Ok c.in-Ok-Control.field-0-is) _ (rw ((let the_named : c.datalink-datalink.result ≡ (state_in c.args.words.now).datalink.id = says_so _ c.requires (λ (s : State). s.datalink.id) _ c.datalink-datalink.ensures in the_named)) at c.read.ensures) c.control.ensures

pub returns-in-Err : goal.returns-in-Err
returns-in-Err c = read_refused _ _ _ _ _ c.plane.ensures _ _ c.in-Err.is refl refl

pub returns-in-Ok-Data : goal.returns-in-Ok-Data
returns-in-Ok-Data c = read_data_lem _ _ _ _ _ c.plane.ensures _ (c.in-Ok-Data.is ∙ ap Ok c.in-Ok-Data.field-0-is) _ (rw ((let the_named : c.datalink-datalink.result ≡ (state_in c.args.words.now).datalink.id = says_so _ c.requires (λ (s : State). s.datalink.id) _ c.datalink-datalink.ensures in the_named)) at c.read-in-Ok-Data.ensures) c.data.ensures
