-- `options` judges the options one after another, as `with_packet` does. The loop's invariant: the whole reading is judging the rest from here.
-- Assumes nothing.
use Rattle.std.specs.Prelude.{Ok}
use Prim.Native.Nat.{◌+◌, ◌≤◌}
use mathlib.Core.Path.{refl, sym, ap, ◌∙◌}
use native.Mathlib.Omega.{arith}
use lib.ListN.{length}
use Rattle.read_option.specs.declared.answer.Item.{Item}
use Rattle.read_option.specs.Stated.{data_stated}
use Rattle.read_rules.specs.Sorts.{rules_of}
use Rattle.read_rules.proofs.Turn.{ends, cuts}
use Rattle.read_data.specs.Message.{blank_data, data_sort}
use Rattle.read_data.proofs.Message.{gathered, Seatless, passed_over, room, behind_packet, refusing, parted}
use Rattle.read_data.proofs.options.Goals as goal

pub loop-at-init : goal.loop-at-init
unfolding blank_data data_stated
loop-at-init c =
    refl

pub returns-in_default : goal.returns-in_default
returns-in_default c =
    c.refused.ensures ∙ sym (cuts (rules_of (data_sort c.args.end c.args.id)) _ c.loop-at.at (gathered c.loop-at.datalink c.loop-at.sequence c.loop-at.channel c.loop-at.expiration c.loop-at.packet) c.loop-at.invariant c.loop-at-test.true (sym c.in_default.is ∙ c.first.ensures))

pub returns-then-packet : goal.returns-then-packet
returns-then-packet c =
    c.refused-then-packet.ensures ∙ sym (behind_packet c.args.end c.args.id c.args.datagram.now c.loop-at.at c.in-Some.kind c.in-Some.size (gathered c.loop-at.datalink c.loop-at.sequence c.loop-at.channel c.loop-at.expiration c.loop-at.packet) c.loop-at.invariant c.loop-at-test.true c.first.ensures c.in-Some.is c.if-packet.true)

pub overflow_add-to : goal.overflow_add-to
overflow_add-to c =
    let fits : c.loop-at.at + 3 + c.in-Some.size ≤ length c.args.datagram.now = room c.args.end c.args.id c.args.datagram.now c.loop-at.at c.in-Some.kind c.in-Some.size (gathered c.loop-at.datalink c.loop-at.sequence c.loop-at.channel c.loop-at.expiration c.loop-at.packet) c.loop-at.invariant c.loop-at-test.true c.first.ensures c.in-Some.is in
    omega arith

pub slice_bounds-of_data_alone-end : goal.slice_bounds-of_data_alone-end
slice_bounds-of_data_alone-end c =
    room c.args.end c.args.id c.args.datagram.now c.loop-at.at c.in-Some.kind c.in-Some.size (gathered c.loop-at.datalink c.loop-at.sequence c.loop-at.channel c.loop-at.expiration c.loop-at.packet) c.loop-at.invariant c.loop-at-test.true c.first.ensures c.in-Some.is

pub returns-in_default-answer : goal.returns-in_default-answer
returns-in_default-answer c =
    c.refused-in_default-answer.ensures ∙ sym (rw c.number_of.ensures (refusing c.args.end c.args.id c.args.datagram.now c.loop-at.at c.in-Some.kind c.in-Some.size (gathered c.loop-at.datalink c.loop-at.sequence c.loop-at.channel c.loop-at.expiration c.loop-at.packet) c.loop-at.invariant c.loop-at-test.true c.first.ensures c.in-Some.is c.if-packet.false c.of_data_alone-answer.ensures.value c.in_default-answer.is))

pub returns-in_default-datalink : goal.returns-in_default-datalink
returns-in_default-datalink c =
    let arm = parted c.args.end c.args.id c.args.datagram.now c.loop-at.at c.in-Some.kind c.in-Some.size (gathered c.loop-at.datalink c.loop-at.sequence c.loop-at.channel c.loop-at.expiration c.loop-at.packet) c.loop-at.invariant c.loop-at-test.true c.first.ensures c.in-Some.is c.if-packet.false c.of_data_alone-answer.ensures.value (Item.Datalink c.in-Datalink.named) (c.in-Ok.is ∙ ap Ok c.in-Datalink.is) in
    c.refused-in_default-datalink.ensures ∙ sym (arm.refuses (rw c.in_default-datalink.is))

pub returns-in_default-sequence : goal.returns-in_default-sequence
returns-in_default-sequence c =
    let arm = parted c.args.end c.args.id c.args.datagram.now c.loop-at.at c.in-Some.kind c.in-Some.size (gathered c.loop-at.datalink c.loop-at.sequence c.loop-at.channel c.loop-at.expiration c.loop-at.packet) c.loop-at.invariant c.loop-at-test.true c.first.ensures c.in-Some.is c.if-packet.false c.of_data_alone-answer.ensures.value (Item.Sequence c.in-Sequence.counted c.in-Sequence.value) (c.in-Ok.is ∙ ap Ok c.in-Sequence.is) in
    c.refused-in_default-sequence.ensures ∙ sym (arm.refuses (rw c.in_default-sequence.is))

pub returns-in_default-channel : goal.returns-in_default-channel
returns-in_default-channel c =
    let arm = parted c.args.end c.args.id c.args.datagram.now c.loop-at.at c.in-Some.kind c.in-Some.size (gathered c.loop-at.datalink c.loop-at.sequence c.loop-at.channel c.loop-at.expiration c.loop-at.packet) c.loop-at.invariant c.loop-at-test.true c.first.ensures c.in-Some.is c.if-packet.false c.of_data_alone-answer.ensures.value (Item.Channel c.in-Channel.named) (c.in-Ok.is ∙ ap Ok c.in-Channel.is) in
    c.refused-in_default-channel.ensures ∙ sym (arm.refuses (rw c.in_default-channel.is))

pub returns-in_default-expiration : goal.returns-in_default-expiration
returns-in_default-expiration c =
    let arm = parted c.args.end c.args.id c.args.datagram.now c.loop-at.at c.in-Some.kind c.in-Some.size (gathered c.loop-at.datalink c.loop-at.sequence c.loop-at.channel c.loop-at.expiration c.loop-at.packet) c.loop-at.invariant c.loop-at-test.true c.first.ensures c.in-Some.is c.if-packet.false c.of_data_alone-answer.ensures.value (Item.Expiration c.in-Expiration.time) (c.in-Ok.is ∙ ap Ok c.in-Expiration.is) in
    c.refused-in_default-expiration.ensures ∙ sym (arm.refuses (rw c.in_default-expiration.is))

pub loop-at-preserved-in-None : goal.loop-at-preserved-in-None
loop-at-preserved-in-None c =
    let arm = parted c.args.end c.args.id c.args.datagram.now c.loop-at.at c.in-Some.kind c.in-Some.size (gathered c.loop-at.datalink c.loop-at.sequence c.loop-at.channel c.loop-at.expiration c.loop-at.packet) c.loop-at.invariant c.loop-at-test.true c.first.ensures c.in-Some.is c.if-packet.false c.of_data_alone-answer.ensures.value (Item.Datalink c.in-Datalink.named) (c.in-Ok.is ∙ ap Ok c.in-Datalink.is) in
    arm.goes_on (rw c.in-None.is)

pub loop-at-preserved-in-None-sequence : goal.loop-at-preserved-in-None-sequence
loop-at-preserved-in-None-sequence c =
    let arm = parted c.args.end c.args.id c.args.datagram.now c.loop-at.at c.in-Some.kind c.in-Some.size (gathered c.loop-at.datalink c.loop-at.sequence c.loop-at.channel c.loop-at.expiration c.loop-at.packet) c.loop-at.invariant c.loop-at-test.true c.first.ensures c.in-Some.is c.if-packet.false c.of_data_alone-answer.ensures.value (Item.Sequence c.in-Sequence.counted c.in-Sequence.value) (c.in-Ok.is ∙ ap Ok c.in-Sequence.is) in
    arm.goes_on (rw c.in-None-sequence.is)

pub loop-at-preserved-in-None-channel : goal.loop-at-preserved-in-None-channel
loop-at-preserved-in-None-channel c =
    let arm = parted c.args.end c.args.id c.args.datagram.now c.loop-at.at c.in-Some.kind c.in-Some.size (gathered c.loop-at.datalink c.loop-at.sequence c.loop-at.channel c.loop-at.expiration c.loop-at.packet) c.loop-at.invariant c.loop-at-test.true c.first.ensures c.in-Some.is c.if-packet.false c.of_data_alone-answer.ensures.value (Item.Channel c.in-Channel.named) (c.in-Ok.is ∙ ap Ok c.in-Channel.is) in
    arm.goes_on (rw c.in-None-channel.is)

pub loop-at-preserved-in-None-expiration : goal.loop-at-preserved-in-None-expiration
loop-at-preserved-in-None-expiration c =
    let arm = parted c.args.end c.args.id c.args.datagram.now c.loop-at.at c.in-Some.kind c.in-Some.size (gathered c.loop-at.datalink c.loop-at.sequence c.loop-at.channel c.loop-at.expiration c.loop-at.packet) c.loop-at.invariant c.loop-at-test.true c.first.ensures c.in-Some.is c.if-packet.false c.of_data_alone-answer.ensures.value (Item.Expiration c.in-Expiration.time) (c.in-Ok.is ∙ ap Ok c.in-Expiration.is) in
    arm.goes_on (rw c.in-None-expiration.is)

pub loop-at-preserved-in-Packet : goal.loop-at-preserved-in-Packet
loop-at-preserved-in-Packet c =
    let arm = parted c.args.end c.args.id c.args.datagram.now c.loop-at.at c.in-Some.kind c.in-Some.size (gathered c.loop-at.datalink c.loop-at.sequence c.loop-at.channel c.loop-at.expiration c.loop-at.packet) c.loop-at.invariant c.loop-at-test.true c.first.ensures c.in-Some.is c.if-packet.false c.of_data_alone-answer.ensures.value (Item.Packet) (c.in-Ok.is ∙ ap Ok c.in-Packet.is) in
    arm.goes_on (rw c.if-packet.false)

pub loop-at-preserved : goal.loop-at-preserved
loop-at-preserved c =
    let seatless : Seatless c.in-Ok.item =
    record { no_datalink = c.in_default-item.not-Datalink; no_sequence = c.in_default-item.not-Sequence; no_channel = c.in_default-item.not-Channel; no_expiration = c.in_default-item.not-Expiration; no_packet_item = c.in_default-item.not-Packet } in
    let arm = parted c.args.end c.args.id c.args.datagram.now c.loop-at.at c.in-Some.kind c.in-Some.size (gathered c.loop-at.datalink c.loop-at.sequence c.loop-at.channel c.loop-at.expiration c.loop-at.packet) c.loop-at.invariant c.loop-at-test.true c.first.ensures c.in-Some.is c.if-packet.false c.of_data_alone-answer.ensures.value c.in-Ok.item c.in-Ok.is in
    arm.goes_on (passed_over c.in-Ok.item _ seatless)

pub returns : goal.returns
returns c =
    c.finished.ensures c.args.end ∙ sym (ends (rules_of (data_sort c.args.end c.args.id)) _ c.loop-at.at (gathered c.loop-at.datalink c.loop-at.sequence c.loop-at.channel c.loop-at.expiration c.loop-at.packet) c.loop-at.invariant c.loop-at-test.false)
