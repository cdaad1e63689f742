-- `data::lay` meets its contract: at each stage the rest of the output is lent to the writer of the next option. Assumes nothing.
use native.Mathlib.Omega.{arith}
use lib.ListN.{length-set}
use Rattle.wire.specs.Options.{option}
use Rattle.meaning.specs.Kinds.{PACKET-DATA}
use Rattle.write_option.specs.Parts.{datalink_then, counted_then, channel_then, expiration_then}
use Rattle.write_option.proofs.Laying.{Stage, stage, standing_end}
use Rattle.write_option.proofs.Parts.{datalink_part_lem, counted_part_lem, channel_part_lem, expiration_part_lem, packet_part}
use Rattle.writer.specs.Written.{data_written}
use Rattle.writer.proofs.DataMessage.{behind_datalink, behind_counted, behind_channel, behind_expiration, behind_packet, data_header}
use Rattle.writer.proofs.data.lay.Goals as goal

pub bounds-out-0 : goal.bounds-out-0
bounds-out-0 c =
    let s0 : Stage (data_written c.args.message c.args.packet.now) c.args.out.now (datalink_then c.args.message.datalink) (behind_datalink c.args.message c.args.packet.now) = stage (datalink_part_lem c.args.message.datalink) (data_header c.args.message c.args.packet.now c.args.out.now c.requires.packet_in_bounds) in
    rw length-set at s0.lent.start

pub slice_bounds-lay_datalink-count : goal.slice_bounds-lay_datalink-count
slice_bounds-lay_datalink-count c =
    let s0 : Stage (data_written c.args.message c.args.packet.now) c.args.out.now (datalink_then c.args.message.datalink) (behind_datalink c.args.message c.args.packet.now) = stage (datalink_part_lem c.args.message.datalink) (data_header c.args.message c.args.packet.now c.args.out.now c.requires.packet_in_bounds) in
    s0.lent.start

pub slice_bounds-lay_datalink-start : goal.slice_bounds-lay_datalink-start
slice_bounds-lay_datalink-start c =
    let s0 : Stage (data_written c.args.message c.args.packet.now) c.args.out.now (datalink_then c.args.message.datalink) (behind_datalink c.args.message c.args.packet.now) = stage (datalink_part_lem c.args.message.datalink) (data_header c.args.message c.args.packet.now c.args.out.now c.requires.packet_in_bounds) in
    s0.lent.start

pub lay_datalink-at-requires : goal.lay_datalink-at-requires
lay_datalink-at-requires c =
    let s0 : Stage (data_written c.args.message c.args.packet.now) c.args.out.now (datalink_then c.args.message.datalink) (behind_datalink c.args.message c.args.packet.now) = stage (datalink_part_lem c.args.message.datalink) (data_header c.args.message c.args.packet.now c.args.out.now c.requires.packet_in_bounds) in
    s0.lent.room

pub overflow_add-at : goal.overflow_add-at
overflow_add-at c =
    let s0 : Stage (data_written c.args.message c.args.packet.now) c.args.out.now (datalink_then c.args.message.datalink) (behind_datalink c.args.message c.args.packet.now) = stage (datalink_part_lem c.args.message.datalink) (data_header c.args.message c.args.packet.now c.args.out.now c.requires.packet_in_bounds) in
    omega (arith, s0.lent.fits _ c.lay_datalink-at.ensures.count_is)

pub slice_bounds-lay_counted-count : goal.slice_bounds-lay_counted-count
slice_bounds-lay_counted-count c =
    let s0 : Stage (data_written c.args.message c.args.packet.now) c.args.out.now (datalink_then c.args.message.datalink) (behind_datalink c.args.message c.args.packet.now) = stage (datalink_part_lem c.args.message.datalink) (data_header c.args.message c.args.packet.now c.args.out.now c.requires.packet_in_bounds) in
    let s1 : Stage (data_written c.args.message c.args.packet.now) c.args.out.now (counted_then c.args.message.sequence) (behind_counted c.args.message c.args.packet.now) = stage (counted_part_lem c.args.message.sequence) (s0.lent.back _ _ c.lay_datalink-at.ensures) in
    s1.lent.start

pub slice_bounds-lay_counted-start : goal.slice_bounds-lay_counted-start
slice_bounds-lay_counted-start c =
    let s0 : Stage (data_written c.args.message c.args.packet.now) c.args.out.now (datalink_then c.args.message.datalink) (behind_datalink c.args.message c.args.packet.now) = stage (datalink_part_lem c.args.message.datalink) (data_header c.args.message c.args.packet.now c.args.out.now c.requires.packet_in_bounds) in
    let s1 : Stage (data_written c.args.message c.args.packet.now) c.args.out.now (counted_then c.args.message.sequence) (behind_counted c.args.message c.args.packet.now) = stage (counted_part_lem c.args.message.sequence) (s0.lent.back _ _ c.lay_datalink-at.ensures) in
    s1.lent.start

pub lay_counted-at-requires : goal.lay_counted-at-requires
lay_counted-at-requires c =
    let s0 : Stage (data_written c.args.message c.args.packet.now) c.args.out.now (datalink_then c.args.message.datalink) (behind_datalink c.args.message c.args.packet.now) = stage (datalink_part_lem c.args.message.datalink) (data_header c.args.message c.args.packet.now c.args.out.now c.requires.packet_in_bounds) in
    let s1 : Stage (data_written c.args.message c.args.packet.now) c.args.out.now (counted_then c.args.message.sequence) (behind_counted c.args.message c.args.packet.now) = stage (counted_part_lem c.args.message.sequence) (s0.lent.back _ _ c.lay_datalink-at.ensures) in
    s1.lent.room

pub overflow_add-at-2 : goal.overflow_add-at-2
overflow_add-at-2 c =
    let s0 : Stage (data_written c.args.message c.args.packet.now) c.args.out.now (datalink_then c.args.message.datalink) (behind_datalink c.args.message c.args.packet.now) = stage (datalink_part_lem c.args.message.datalink) (data_header c.args.message c.args.packet.now c.args.out.now c.requires.packet_in_bounds) in
    let s1 : Stage (data_written c.args.message c.args.packet.now) c.args.out.now (counted_then c.args.message.sequence) (behind_counted c.args.message c.args.packet.now) = stage (counted_part_lem c.args.message.sequence) (s0.lent.back _ _ c.lay_datalink-at.ensures) in
    omega (arith, s1.lent.fits _ c.lay_counted-at.ensures.count_is)

pub slice_bounds-lay_channel-count : goal.slice_bounds-lay_channel-count
slice_bounds-lay_channel-count c =
    let s0 : Stage (data_written c.args.message c.args.packet.now) c.args.out.now (datalink_then c.args.message.datalink) (behind_datalink c.args.message c.args.packet.now) = stage (datalink_part_lem c.args.message.datalink) (data_header c.args.message c.args.packet.now c.args.out.now c.requires.packet_in_bounds) in
    let s1 : Stage (data_written c.args.message c.args.packet.now) c.args.out.now (counted_then c.args.message.sequence) (behind_counted c.args.message c.args.packet.now) = stage (counted_part_lem c.args.message.sequence) (s0.lent.back _ _ c.lay_datalink-at.ensures) in
    let s2 : Stage (data_written c.args.message c.args.packet.now) c.args.out.now (channel_then c.args.message.channel) (behind_channel c.args.message c.args.packet.now) = stage (channel_part_lem c.args.message.channel) (s1.lent.back _ _ c.lay_counted-at.ensures) in
    s2.lent.start

pub slice_bounds-lay_channel-start : goal.slice_bounds-lay_channel-start
slice_bounds-lay_channel-start c =
    let s0 : Stage (data_written c.args.message c.args.packet.now) c.args.out.now (datalink_then c.args.message.datalink) (behind_datalink c.args.message c.args.packet.now) = stage (datalink_part_lem c.args.message.datalink) (data_header c.args.message c.args.packet.now c.args.out.now c.requires.packet_in_bounds) in
    let s1 : Stage (data_written c.args.message c.args.packet.now) c.args.out.now (counted_then c.args.message.sequence) (behind_counted c.args.message c.args.packet.now) = stage (counted_part_lem c.args.message.sequence) (s0.lent.back _ _ c.lay_datalink-at.ensures) in
    let s2 : Stage (data_written c.args.message c.args.packet.now) c.args.out.now (channel_then c.args.message.channel) (behind_channel c.args.message c.args.packet.now) = stage (channel_part_lem c.args.message.channel) (s1.lent.back _ _ c.lay_counted-at.ensures) in
    s2.lent.start

pub lay_channel-at-requires : goal.lay_channel-at-requires
lay_channel-at-requires c =
    let s0 : Stage (data_written c.args.message c.args.packet.now) c.args.out.now (datalink_then c.args.message.datalink) (behind_datalink c.args.message c.args.packet.now) = stage (datalink_part_lem c.args.message.datalink) (data_header c.args.message c.args.packet.now c.args.out.now c.requires.packet_in_bounds) in
    let s1 : Stage (data_written c.args.message c.args.packet.now) c.args.out.now (counted_then c.args.message.sequence) (behind_counted c.args.message c.args.packet.now) = stage (counted_part_lem c.args.message.sequence) (s0.lent.back _ _ c.lay_datalink-at.ensures) in
    let s2 : Stage (data_written c.args.message c.args.packet.now) c.args.out.now (channel_then c.args.message.channel) (behind_channel c.args.message c.args.packet.now) = stage (channel_part_lem c.args.message.channel) (s1.lent.back _ _ c.lay_counted-at.ensures) in
    s2.lent.room

pub overflow_add-at-3 : goal.overflow_add-at-3
overflow_add-at-3 c =
    let s0 : Stage (data_written c.args.message c.args.packet.now) c.args.out.now (datalink_then c.args.message.datalink) (behind_datalink c.args.message c.args.packet.now) = stage (datalink_part_lem c.args.message.datalink) (data_header c.args.message c.args.packet.now c.args.out.now c.requires.packet_in_bounds) in
    let s1 : Stage (data_written c.args.message c.args.packet.now) c.args.out.now (counted_then c.args.message.sequence) (behind_counted c.args.message c.args.packet.now) = stage (counted_part_lem c.args.message.sequence) (s0.lent.back _ _ c.lay_datalink-at.ensures) in
    let s2 : Stage (data_written c.args.message c.args.packet.now) c.args.out.now (channel_then c.args.message.channel) (behind_channel c.args.message c.args.packet.now) = stage (channel_part_lem c.args.message.channel) (s1.lent.back _ _ c.lay_counted-at.ensures) in
    omega (arith, s2.lent.fits _ c.lay_channel-at.ensures.count_is)

pub slice_bounds-lay_expiration-count : goal.slice_bounds-lay_expiration-count
slice_bounds-lay_expiration-count c =
    let s0 : Stage (data_written c.args.message c.args.packet.now) c.args.out.now (datalink_then c.args.message.datalink) (behind_datalink c.args.message c.args.packet.now) = stage (datalink_part_lem c.args.message.datalink) (data_header c.args.message c.args.packet.now c.args.out.now c.requires.packet_in_bounds) in
    let s1 : Stage (data_written c.args.message c.args.packet.now) c.args.out.now (counted_then c.args.message.sequence) (behind_counted c.args.message c.args.packet.now) = stage (counted_part_lem c.args.message.sequence) (s0.lent.back _ _ c.lay_datalink-at.ensures) in
    let s2 : Stage (data_written c.args.message c.args.packet.now) c.args.out.now (channel_then c.args.message.channel) (behind_channel c.args.message c.args.packet.now) = stage (channel_part_lem c.args.message.channel) (s1.lent.back _ _ c.lay_counted-at.ensures) in
    let s3 : Stage (data_written c.args.message c.args.packet.now) c.args.out.now (expiration_then c.args.message.expiration) (behind_expiration c.args.message c.args.packet.now) = stage (expiration_part_lem c.args.message.expiration) (s2.lent.back _ _ c.lay_channel-at.ensures) in
    s3.lent.start

pub slice_bounds-lay_expiration-start : goal.slice_bounds-lay_expiration-start
slice_bounds-lay_expiration-start c =
    let s0 : Stage (data_written c.args.message c.args.packet.now) c.args.out.now (datalink_then c.args.message.datalink) (behind_datalink c.args.message c.args.packet.now) = stage (datalink_part_lem c.args.message.datalink) (data_header c.args.message c.args.packet.now c.args.out.now c.requires.packet_in_bounds) in
    let s1 : Stage (data_written c.args.message c.args.packet.now) c.args.out.now (counted_then c.args.message.sequence) (behind_counted c.args.message c.args.packet.now) = stage (counted_part_lem c.args.message.sequence) (s0.lent.back _ _ c.lay_datalink-at.ensures) in
    let s2 : Stage (data_written c.args.message c.args.packet.now) c.args.out.now (channel_then c.args.message.channel) (behind_channel c.args.message c.args.packet.now) = stage (channel_part_lem c.args.message.channel) (s1.lent.back _ _ c.lay_counted-at.ensures) in
    let s3 : Stage (data_written c.args.message c.args.packet.now) c.args.out.now (expiration_then c.args.message.expiration) (behind_expiration c.args.message c.args.packet.now) = stage (expiration_part_lem c.args.message.expiration) (s2.lent.back _ _ c.lay_channel-at.ensures) in
    s3.lent.start

pub lay_expiration-at-requires : goal.lay_expiration-at-requires
lay_expiration-at-requires c =
    let s0 : Stage (data_written c.args.message c.args.packet.now) c.args.out.now (datalink_then c.args.message.datalink) (behind_datalink c.args.message c.args.packet.now) = stage (datalink_part_lem c.args.message.datalink) (data_header c.args.message c.args.packet.now c.args.out.now c.requires.packet_in_bounds) in
    let s1 : Stage (data_written c.args.message c.args.packet.now) c.args.out.now (counted_then c.args.message.sequence) (behind_counted c.args.message c.args.packet.now) = stage (counted_part_lem c.args.message.sequence) (s0.lent.back _ _ c.lay_datalink-at.ensures) in
    let s2 : Stage (data_written c.args.message c.args.packet.now) c.args.out.now (channel_then c.args.message.channel) (behind_channel c.args.message c.args.packet.now) = stage (channel_part_lem c.args.message.channel) (s1.lent.back _ _ c.lay_counted-at.ensures) in
    let s3 : Stage (data_written c.args.message c.args.packet.now) c.args.out.now (expiration_then c.args.message.expiration) (behind_expiration c.args.message c.args.packet.now) = stage (expiration_part_lem c.args.message.expiration) (s2.lent.back _ _ c.lay_channel-at.ensures) in
    s3.lent.room

pub overflow_add-at-4 : goal.overflow_add-at-4
overflow_add-at-4 c =
    let s0 : Stage (data_written c.args.message c.args.packet.now) c.args.out.now (datalink_then c.args.message.datalink) (behind_datalink c.args.message c.args.packet.now) = stage (datalink_part_lem c.args.message.datalink) (data_header c.args.message c.args.packet.now c.args.out.now c.requires.packet_in_bounds) in
    let s1 : Stage (data_written c.args.message c.args.packet.now) c.args.out.now (counted_then c.args.message.sequence) (behind_counted c.args.message c.args.packet.now) = stage (counted_part_lem c.args.message.sequence) (s0.lent.back _ _ c.lay_datalink-at.ensures) in
    let s2 : Stage (data_written c.args.message c.args.packet.now) c.args.out.now (channel_then c.args.message.channel) (behind_channel c.args.message c.args.packet.now) = stage (channel_part_lem c.args.message.channel) (s1.lent.back _ _ c.lay_counted-at.ensures) in
    let s3 : Stage (data_written c.args.message c.args.packet.now) c.args.out.now (expiration_then c.args.message.expiration) (behind_expiration c.args.message c.args.packet.now) = stage (expiration_part_lem c.args.message.expiration) (s2.lent.back _ _ c.lay_channel-at.ensures) in
    omega (arith, s3.lent.fits _ c.lay_expiration-at.ensures.count_is)

pub slice_bounds-lay_packet-count : goal.slice_bounds-lay_packet-count
slice_bounds-lay_packet-count c =
    let s0 : Stage (data_written c.args.message c.args.packet.now) c.args.out.now (datalink_then c.args.message.datalink) (behind_datalink c.args.message c.args.packet.now) = stage (datalink_part_lem c.args.message.datalink) (data_header c.args.message c.args.packet.now c.args.out.now c.requires.packet_in_bounds) in
    let s1 : Stage (data_written c.args.message c.args.packet.now) c.args.out.now (counted_then c.args.message.sequence) (behind_counted c.args.message c.args.packet.now) = stage (counted_part_lem c.args.message.sequence) (s0.lent.back _ _ c.lay_datalink-at.ensures) in
    let s2 : Stage (data_written c.args.message c.args.packet.now) c.args.out.now (channel_then c.args.message.channel) (behind_channel c.args.message c.args.packet.now) = stage (channel_part_lem c.args.message.channel) (s1.lent.back _ _ c.lay_counted-at.ensures) in
    let s3 : Stage (data_written c.args.message c.args.packet.now) c.args.out.now (expiration_then c.args.message.expiration) (behind_expiration c.args.message c.args.packet.now) = stage (expiration_part_lem c.args.message.expiration) (s2.lent.back _ _ c.lay_channel-at.ensures) in
    let s4 : Stage (data_written c.args.message c.args.packet.now) c.args.out.now (option PACKET-DATA c.args.packet.now) (behind_packet c.args.message c.args.packet.now) = stage (packet_part c.args.packet.now) (s3.lent.back _ _ c.lay_expiration-at.ensures) in
    s4.lent.start

pub slice_bounds-lay_packet-start : goal.slice_bounds-lay_packet-start
slice_bounds-lay_packet-start c =
    let s0 : Stage (data_written c.args.message c.args.packet.now) c.args.out.now (datalink_then c.args.message.datalink) (behind_datalink c.args.message c.args.packet.now) = stage (datalink_part_lem c.args.message.datalink) (data_header c.args.message c.args.packet.now c.args.out.now c.requires.packet_in_bounds) in
    let s1 : Stage (data_written c.args.message c.args.packet.now) c.args.out.now (counted_then c.args.message.sequence) (behind_counted c.args.message c.args.packet.now) = stage (counted_part_lem c.args.message.sequence) (s0.lent.back _ _ c.lay_datalink-at.ensures) in
    let s2 : Stage (data_written c.args.message c.args.packet.now) c.args.out.now (channel_then c.args.message.channel) (behind_channel c.args.message c.args.packet.now) = stage (channel_part_lem c.args.message.channel) (s1.lent.back _ _ c.lay_counted-at.ensures) in
    let s3 : Stage (data_written c.args.message c.args.packet.now) c.args.out.now (expiration_then c.args.message.expiration) (behind_expiration c.args.message c.args.packet.now) = stage (expiration_part_lem c.args.message.expiration) (s2.lent.back _ _ c.lay_channel-at.ensures) in
    let s4 : Stage (data_written c.args.message c.args.packet.now) c.args.out.now (option PACKET-DATA c.args.packet.now) (behind_packet c.args.message c.args.packet.now) = stage (packet_part c.args.packet.now) (s3.lent.back _ _ c.lay_expiration-at.ensures) in
    s4.lent.start

pub lay_packet-requires-clause-packet_in_bounds : goal.lay_packet-requires-clause-packet_in_bounds
lay_packet-requires-clause-packet_in_bounds c =
    let s0 : Stage (data_written c.args.message c.args.packet.now) c.args.out.now (datalink_then c.args.message.datalink) (behind_datalink c.args.message c.args.packet.now) = stage (datalink_part_lem c.args.message.datalink) (data_header c.args.message c.args.packet.now c.args.out.now c.requires.packet_in_bounds) in
    let s1 : Stage (data_written c.args.message c.args.packet.now) c.args.out.now (counted_then c.args.message.sequence) (behind_counted c.args.message c.args.packet.now) = stage (counted_part_lem c.args.message.sequence) (s0.lent.back _ _ c.lay_datalink-at.ensures) in
    let s2 : Stage (data_written c.args.message c.args.packet.now) c.args.out.now (channel_then c.args.message.channel) (behind_channel c.args.message c.args.packet.now) = stage (channel_part_lem c.args.message.channel) (s1.lent.back _ _ c.lay_counted-at.ensures) in
    let s3 : Stage (data_written c.args.message c.args.packet.now) c.args.out.now (expiration_then c.args.message.expiration) (behind_expiration c.args.message c.args.packet.now) = stage (expiration_part_lem c.args.message.expiration) (s2.lent.back _ _ c.lay_channel-at.ensures) in
    let s4 : Stage (data_written c.args.message c.args.packet.now) c.args.out.now (option PACKET-DATA c.args.packet.now) (behind_packet c.args.message c.args.packet.now) = stage (packet_part c.args.packet.now) (s3.lent.back _ _ c.lay_expiration-at.ensures) in
    s4.lent.room

pub overflow_add-result : goal.overflow_add-result
overflow_add-result c =
    let s0 : Stage (data_written c.args.message c.args.packet.now) c.args.out.now (datalink_then c.args.message.datalink) (behind_datalink c.args.message c.args.packet.now) = stage (datalink_part_lem c.args.message.datalink) (data_header c.args.message c.args.packet.now c.args.out.now c.requires.packet_in_bounds) in
    let s1 : Stage (data_written c.args.message c.args.packet.now) c.args.out.now (counted_then c.args.message.sequence) (behind_counted c.args.message c.args.packet.now) = stage (counted_part_lem c.args.message.sequence) (s0.lent.back _ _ c.lay_datalink-at.ensures) in
    let s2 : Stage (data_written c.args.message c.args.packet.now) c.args.out.now (channel_then c.args.message.channel) (behind_channel c.args.message c.args.packet.now) = stage (channel_part_lem c.args.message.channel) (s1.lent.back _ _ c.lay_counted-at.ensures) in
    let s3 : Stage (data_written c.args.message c.args.packet.now) c.args.out.now (expiration_then c.args.message.expiration) (behind_expiration c.args.message c.args.packet.now) = stage (expiration_part_lem c.args.message.expiration) (s2.lent.back _ _ c.lay_channel-at.ensures) in
    let s4 : Stage (data_written c.args.message c.args.packet.now) c.args.out.now (option PACKET-DATA c.args.packet.now) (behind_packet c.args.message c.args.packet.now) = stage (packet_part c.args.packet.now) (s3.lent.back _ _ c.lay_expiration-at.ensures) in
    omega (arith, s4.lent.fits _ c.lay_packet.ensures.count_is, c.well_formed)

pub shape_of-out : goal.shape_of-out
shape_of-out c =
    let s0 : Stage (data_written c.args.message c.args.packet.now) c.args.out.now (datalink_then c.args.message.datalink) (behind_datalink c.args.message c.args.packet.now) = stage (datalink_part_lem c.args.message.datalink) (data_header c.args.message c.args.packet.now c.args.out.now c.requires.packet_in_bounds) in
    let s1 : Stage (data_written c.args.message c.args.packet.now) c.args.out.now (counted_then c.args.message.sequence) (behind_counted c.args.message c.args.packet.now) = stage (counted_part_lem c.args.message.sequence) (s0.lent.back _ _ c.lay_datalink-at.ensures) in
    let s2 : Stage (data_written c.args.message c.args.packet.now) c.args.out.now (channel_then c.args.message.channel) (behind_channel c.args.message c.args.packet.now) = stage (channel_part_lem c.args.message.channel) (s1.lent.back _ _ c.lay_counted-at.ensures) in
    let s3 : Stage (data_written c.args.message c.args.packet.now) c.args.out.now (expiration_then c.args.message.expiration) (behind_expiration c.args.message c.args.packet.now) = stage (expiration_part_lem c.args.message.expiration) (s2.lent.back _ _ c.lay_channel-at.ensures) in
    let s4 : Stage (data_written c.args.message c.args.packet.now) c.args.out.now (option PACKET-DATA c.args.packet.now) (behind_packet c.args.message c.args.packet.now) = stage (packet_part c.args.packet.now) (s3.lent.back _ _ c.lay_expiration-at.ensures) in
    (s4.lent.back _ _ c.lay_packet.ensures).long

pub returns : goal.returns
returns c =
    let s0 : Stage (data_written c.args.message c.args.packet.now) c.args.out.now (datalink_then c.args.message.datalink) (behind_datalink c.args.message c.args.packet.now) = stage (datalink_part_lem c.args.message.datalink) (data_header c.args.message c.args.packet.now c.args.out.now c.requires.packet_in_bounds) in
    let s1 : Stage (data_written c.args.message c.args.packet.now) c.args.out.now (counted_then c.args.message.sequence) (behind_counted c.args.message c.args.packet.now) = stage (counted_part_lem c.args.message.sequence) (s0.lent.back _ _ c.lay_datalink-at.ensures) in
    let s2 : Stage (data_written c.args.message c.args.packet.now) c.args.out.now (channel_then c.args.message.channel) (behind_channel c.args.message c.args.packet.now) = stage (channel_part_lem c.args.message.channel) (s1.lent.back _ _ c.lay_counted-at.ensures) in
    let s3 : Stage (data_written c.args.message c.args.packet.now) c.args.out.now (expiration_then c.args.message.expiration) (behind_expiration c.args.message c.args.packet.now) = stage (expiration_part_lem c.args.message.expiration) (s2.lent.back _ _ c.lay_channel-at.ensures) in
    let s4 : Stage (data_written c.args.message c.args.packet.now) c.args.out.now (option PACKET-DATA c.args.packet.now) (behind_packet c.args.message c.args.packet.now) = stage (packet_part c.args.packet.now) (s3.lent.back _ _ c.lay_expiration-at.ensures) in
    standing_end (s4.lent.back _ _ c.lay_packet.ensures)
