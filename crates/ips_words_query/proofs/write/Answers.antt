-- `write` meets its contract. Assumes nothing.
use mathlib.Core.Bool.{true}
use mathlib.Core.Path.{◌≡◌}
use Rattle.writer.specs.Written.{control_written}
use Rattle.writer.proofs.Outcomes.{Judged, outcome_no_room}
use Rattle.ips_query.specs.Query.{query_of}
use Rattle.ips_words.specs.Words.{state_in}
use Rattle.ips_words_query.proofs.Gathering.{said_head, said_datalink}
use Rattle.ips_words_query.proofs.Writing.{query_judged, query_room, query_wrote}
use Rattle.ips_words_query.proofs.write.Goals as goal

pub returns-then-no_room : goal.returns-then-no_room
returns-then-no_room c = outcome_no_room ((let the_judged : Judged true (control_written (query_of (state_in c.args.words.now))) c.args.out.now c.no_room.result = query_judged _ _ _ _ c.gather-count.ensures c.size.ensures c.no_room.ensures in the_judged)) c.if-no_room.true c.refused.ensures

pub datalink-requires : goal.datalink-requires
datalink-requires c = said_head _ c.requires

pub lay-requires : goal.lay-requires
lay-requires c =
    let judged : Judged true (control_written (query_of (state_in c.args.words.now))) c.args.out.now c.no_room.result = query_judged _ _ _ _ c.gather-count.ensures c.size.ensures c.no_room.ensures in
    let named : c.datalink.result ≡ (state_in c.args.words.now).datalink.id = said_datalink _ c.requires c.datalink.ensures in
    let r = query_room _ _ _ _ c.gather-count.ensures judged c.if-no_room.false _ named in
    record { rising_contents = r.0; contents_in_bounds = r.1 }

pub returns : goal.returns
returns c =
    let judged : Judged true (control_written (query_of (state_in c.args.words.now))) c.args.out.now c.no_room.result = query_judged _ _ _ _ c.gather-count.ensures c.size.ensures c.no_room.ensures in
    let named : c.datalink.result ≡ (state_in c.args.words.now).datalink.id = said_datalink _ c.requires c.datalink.ensures in
    query_wrote _ _ _ _ c.gather-count.ensures judged c.if-no_room.false _ named c.lay.ensures
