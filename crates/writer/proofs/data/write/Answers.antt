-- `data::write` meets its contract. Assumes nothing.
use mathlib.Core.Path.{sym, ◌∙◌}
use lib.ListN.{length}
use Rattle.writable.specs.Allowed.{data_allowed}
use Rattle.writer.specs.Written.{data_written}
use Rattle.writer.proofs.Outcomes.{Judged, judged_by_lem, outcome_refused, outcome_no_room, outcome_wrote, room_enough}
use Rattle.writer.proofs.Short.{data_short}
use mathlib.Core.Path.{ap}
use mathlib.Core.Bool.{not}
use Rattle.writer.proofs.data.write.Goals as goal

pub returns-then-not-may_write : goal.returns-then-not-may_write
returns-then-not-may_write c = outcome_refused c.may_write.ensures (ap not c.if-not-may_write.true) c.refused.ensures

pub size-requires : goal.size-requires
size-requires c = data_short c.args.end c.args.message (length c.args.packet.now) (sym c.may_write.ensures ∙ c.if-not-may_write.false)

pub returns-then-no_room : goal.returns-then-no_room
returns-then-no_room c = outcome_no_room ((let the_judged : Judged (data_allowed c.args.end c.args.message (length c.args.packet.now)) (data_written c.args.message c.args.packet.now) c.args.out.now c.no_room.result = judged_by_lem c.may_write.ensures (ap not c.if-not-may_write.false) c.size.ensures c.no_room.ensures in the_judged)) c.if-no_room.true c.refused-then-no_room.ensures

pub lay-requires : goal.lay-requires
lay-requires c =
    let full = (let the_judged : Judged (data_allowed c.args.end c.args.message (length c.args.packet.now)) (data_written c.args.message c.args.packet.now) c.args.out.now c.no_room.result = judged_by_lem c.may_write.ensures (ap not c.if-not-may_write.false) c.size.ensures c.no_room.ensures in the_judged) in
    record { packet_len_bound = data_short _ _ _ full.yes; packet_in_bounds = room_enough full c.if-no_room.false }

pub returns : goal.returns
returns c = outcome_wrote ((let the_judged : Judged (data_allowed c.args.end c.args.message (length c.args.packet.now)) (data_written c.args.message c.args.packet.now) c.args.out.now c.no_room.result = judged_by_lem c.may_write.ensures (ap not c.if-not-may_write.false) c.size.ensures c.no_room.ensures in the_judged)) c.if-no_room.false c.lay.ensures
