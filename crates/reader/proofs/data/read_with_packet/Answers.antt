-- `reader::data::read_with_packet` is the reading of `read`, with the packet that it carries. Assumes nothing.
use mathlib.Core.Path.{ap}
use Rattle.std.specs.Prelude.{Ok}
use Prim.Native.Nat.{ℕ}
use mathlib.Core.List.{List}
use mathlib.Core.Path.{◌≡◌, refl, sym, ◌∙◌}
use Rattle.read_rules.specs.Sorts.{rules_of}
use Rattle.read_data.specs.Message.{data_refused, data_other, data_sort}
use Rattle.read_data.proofs.Carried.{refused_unaccepted, other_unaccepted, none_right}
use Rattle.reader.specs.Readings.{DataReading, carried_reading, read_data, read_carried}
use Rattle.reader.proofs.Planes.{by_plane_lem}
use Rattle.reader.proofs.data.read_with_packet.Goals as goal

carried-alike : {first second : DataReading} (s : List ℕ) → first ≡ second → carried_reading first s ≡ carried_reading second s
carried-alike s e = rw e refl

pub returns-in-Err : goal.returns-in-Err
unfolding read_data read_carried
returns-in-Err c =
    let is : data_refused c.in-Err.refusal.number c.in-Err.refusal.place ≡ read_data c.args.end c.args.id c.args.datagram.now =
    by_plane_lem (rules_of (data_sort c.args.end c.args.id)) c.args.datagram.now (sym c.plane.ensures ∙ c.in-Err.is) in
    let both = none_right c.args.datagram.now (refused_unaccepted _ _) c.uncarried.ensures (sym is) in
    record { value = both.0; packet = both.1 }

pub returns-in-Ok-Control : goal.returns-in-Ok-Control
unfolding read_data read_carried
returns-in-Ok-Control c =
    let is : data_other ≡ read_data c.args.end c.args.id c.args.datagram.now =
    by_plane_lem (rules_of (data_sort c.args.end c.args.id)) c.args.datagram.now (sym c.plane.ensures ∙ (c.in-Ok-Control.is ∙ ap Ok c.in-Ok-Control.field-0-is)) in
    let both = none_right c.args.datagram.now other_unaccepted c.other_plane.ensures (sym is) in
    record { value = both.0; packet = both.1 }

pub returns-in-Ok-Data : goal.returns-in-Ok-Data
unfolding read_data read_carried
returns-in-Ok-Data c = record { value = c.with_packet.ensures.value ∙ carried-alike _ (by_plane_lem _ _ (sym c.plane.ensures ∙ (c.in-Ok-Data.is ∙ ap Ok c.in-Ok-Data.field-0-is))); packet = c.with_packet.ensures.packet }
