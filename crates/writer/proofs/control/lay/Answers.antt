-- `control::lay` meets its contract: at each stage the rest of the output is lent to the writer of the next part. Assumes nothing.
use native.Mathlib.Omega.{arith}
use lib.ListN.{length-set}
use Rattle.write_option.specs.Parts.{datalink_then, instance_then, context_then, statuses_then, sequences_then, windows_then}
use Rattle.write_option.proofs.Laying.{Stage, stage, standing_end}
use Rattle.write_option.proofs.Parts.{datalink_part_lem, instance_part_lem, context_part_lem}
use Rattle.write_option.proofs.Tables.{statuses_part, sequences_part, windows_part}
use Rattle.writer.specs.Written.{control_written}
use Rattle.writer.proofs.ControlMessage.{behind_datalink, behind_instance, behind_context, behind_statuses, behind_sequences, behind_windows, control_header}
use Rattle.writer.proofs.control.lay.Goals as goal

pub bounds-out-0 : goal.bounds-out-0
bounds-out-0 c =
    let s0 : Stage (control_written c.args.message) c.args.out.now (datalink_then c.args.message.datalink) (behind_datalink c.args.message) = stage (datalink_part_lem c.args.message.datalink) (control_header c.args.message c.args.out.now c.requires.message_in_bounds) in
    rw length-set at s0.lent.start

pub slice_bounds-lay_datalink-count : goal.slice_bounds-lay_datalink-count
slice_bounds-lay_datalink-count c =
    let s0 : Stage (control_written c.args.message) c.args.out.now (datalink_then c.args.message.datalink) (behind_datalink c.args.message) = stage (datalink_part_lem c.args.message.datalink) (control_header c.args.message c.args.out.now c.requires.message_in_bounds) in
    s0.lent.start

pub slice_bounds-lay_datalink-start : goal.slice_bounds-lay_datalink-start
slice_bounds-lay_datalink-start c =
    let s0 : Stage (control_written c.args.message) c.args.out.now (datalink_then c.args.message.datalink) (behind_datalink c.args.message) = stage (datalink_part_lem c.args.message.datalink) (control_header c.args.message c.args.out.now c.requires.message_in_bounds) in
    s0.lent.start

pub lay_datalink-at-requires : goal.lay_datalink-at-requires
lay_datalink-at-requires c =
    let s0 : Stage (control_written c.args.message) c.args.out.now (datalink_then c.args.message.datalink) (behind_datalink c.args.message) = stage (datalink_part_lem c.args.message.datalink) (control_header c.args.message c.args.out.now c.requires.message_in_bounds) in
    s0.lent.room

pub overflow_add-at : goal.overflow_add-at
overflow_add-at c =
    let s0 : Stage (control_written c.args.message) c.args.out.now (datalink_then c.args.message.datalink) (behind_datalink c.args.message) = stage (datalink_part_lem c.args.message.datalink) (control_header c.args.message c.args.out.now c.requires.message_in_bounds) in
    omega (arith, s0.lent.fits _ c.lay_datalink-at.ensures.count_is)

pub slice_bounds-lay_instance-count : goal.slice_bounds-lay_instance-count
slice_bounds-lay_instance-count c =
    let s0 : Stage (control_written c.args.message) c.args.out.now (datalink_then c.args.message.datalink) (behind_datalink c.args.message) = stage (datalink_part_lem c.args.message.datalink) (control_header c.args.message c.args.out.now c.requires.message_in_bounds) in
    let s1 : Stage (control_written c.args.message) c.args.out.now (instance_then c.args.message.instance) (behind_instance c.args.message) = stage (instance_part_lem c.args.message.instance) (s0.lent.back _ _ c.lay_datalink-at.ensures) in
    s1.lent.start

pub slice_bounds-lay_instance-start : goal.slice_bounds-lay_instance-start
slice_bounds-lay_instance-start c =
    let s0 : Stage (control_written c.args.message) c.args.out.now (datalink_then c.args.message.datalink) (behind_datalink c.args.message) = stage (datalink_part_lem c.args.message.datalink) (control_header c.args.message c.args.out.now c.requires.message_in_bounds) in
    let s1 : Stage (control_written c.args.message) c.args.out.now (instance_then c.args.message.instance) (behind_instance c.args.message) = stage (instance_part_lem c.args.message.instance) (s0.lent.back _ _ c.lay_datalink-at.ensures) in
    s1.lent.start

pub lay_instance-at-requires-clause-instance_in_bounds : goal.lay_instance-at-requires-clause-instance_in_bounds
lay_instance-at-requires-clause-instance_in_bounds c =
    let s0 : Stage (control_written c.args.message) c.args.out.now (datalink_then c.args.message.datalink) (behind_datalink c.args.message) = stage (datalink_part_lem c.args.message.datalink) (control_header c.args.message c.args.out.now c.requires.message_in_bounds) in
    let s1 : Stage (control_written c.args.message) c.args.out.now (instance_then c.args.message.instance) (behind_instance c.args.message) = stage (instance_part_lem c.args.message.instance) (s0.lent.back _ _ c.lay_datalink-at.ensures) in
    s1.lent.room

pub overflow_add-at-2 : goal.overflow_add-at-2
overflow_add-at-2 c =
    let s0 : Stage (control_written c.args.message) c.args.out.now (datalink_then c.args.message.datalink) (behind_datalink c.args.message) = stage (datalink_part_lem c.args.message.datalink) (control_header c.args.message c.args.out.now c.requires.message_in_bounds) in
    let s1 : Stage (control_written c.args.message) c.args.out.now (instance_then c.args.message.instance) (behind_instance c.args.message) = stage (instance_part_lem c.args.message.instance) (s0.lent.back _ _ c.lay_datalink-at.ensures) in
    omega (arith, s1.lent.fits _ c.lay_instance-at.ensures.count_is)

pub slice_bounds-lay_context-count : goal.slice_bounds-lay_context-count
slice_bounds-lay_context-count c =
    let s0 : Stage (control_written c.args.message) c.args.out.now (datalink_then c.args.message.datalink) (behind_datalink c.args.message) = stage (datalink_part_lem c.args.message.datalink) (control_header c.args.message c.args.out.now c.requires.message_in_bounds) in
    let s1 : Stage (control_written c.args.message) c.args.out.now (instance_then c.args.message.instance) (behind_instance c.args.message) = stage (instance_part_lem c.args.message.instance) (s0.lent.back _ _ c.lay_datalink-at.ensures) in
    let s2 : Stage (control_written c.args.message) c.args.out.now (context_then c.args.message.context) (behind_context c.args.message) = stage (context_part_lem c.args.message.context) (s1.lent.back _ _ c.lay_instance-at.ensures) in
    s2.lent.start

pub slice_bounds-lay_context-start : goal.slice_bounds-lay_context-start
slice_bounds-lay_context-start c =
    let s0 : Stage (control_written c.args.message) c.args.out.now (datalink_then c.args.message.datalink) (behind_datalink c.args.message) = stage (datalink_part_lem c.args.message.datalink) (control_header c.args.message c.args.out.now c.requires.message_in_bounds) in
    let s1 : Stage (control_written c.args.message) c.args.out.now (instance_then c.args.message.instance) (behind_instance c.args.message) = stage (instance_part_lem c.args.message.instance) (s0.lent.back _ _ c.lay_datalink-at.ensures) in
    let s2 : Stage (control_written c.args.message) c.args.out.now (context_then c.args.message.context) (behind_context c.args.message) = stage (context_part_lem c.args.message.context) (s1.lent.back _ _ c.lay_instance-at.ensures) in
    s2.lent.start

pub lay_context-at-requires-clause-context_in_bounds : goal.lay_context-at-requires-clause-context_in_bounds
lay_context-at-requires-clause-context_in_bounds c =
    let s0 : Stage (control_written c.args.message) c.args.out.now (datalink_then c.args.message.datalink) (behind_datalink c.args.message) = stage (datalink_part_lem c.args.message.datalink) (control_header c.args.message c.args.out.now c.requires.message_in_bounds) in
    let s1 : Stage (control_written c.args.message) c.args.out.now (instance_then c.args.message.instance) (behind_instance c.args.message) = stage (instance_part_lem c.args.message.instance) (s0.lent.back _ _ c.lay_datalink-at.ensures) in
    let s2 : Stage (control_written c.args.message) c.args.out.now (context_then c.args.message.context) (behind_context c.args.message) = stage (context_part_lem c.args.message.context) (s1.lent.back _ _ c.lay_instance-at.ensures) in
    s2.lent.room

pub overflow_add-at-3 : goal.overflow_add-at-3
overflow_add-at-3 c =
    let s0 : Stage (control_written c.args.message) c.args.out.now (datalink_then c.args.message.datalink) (behind_datalink c.args.message) = stage (datalink_part_lem c.args.message.datalink) (control_header c.args.message c.args.out.now c.requires.message_in_bounds) in
    let s1 : Stage (control_written c.args.message) c.args.out.now (instance_then c.args.message.instance) (behind_instance c.args.message) = stage (instance_part_lem c.args.message.instance) (s0.lent.back _ _ c.lay_datalink-at.ensures) in
    let s2 : Stage (control_written c.args.message) c.args.out.now (context_then c.args.message.context) (behind_context c.args.message) = stage (context_part_lem c.args.message.context) (s1.lent.back _ _ c.lay_instance-at.ensures) in
    omega (arith, s2.lent.fits _ c.lay_context-at.ensures.count_is)

pub slice_bounds-lay_statuses-count : goal.slice_bounds-lay_statuses-count
slice_bounds-lay_statuses-count c =
    let s0 : Stage (control_written c.args.message) c.args.out.now (datalink_then c.args.message.datalink) (behind_datalink c.args.message) = stage (datalink_part_lem c.args.message.datalink) (control_header c.args.message c.args.out.now c.requires.message_in_bounds) in
    let s1 : Stage (control_written c.args.message) c.args.out.now (instance_then c.args.message.instance) (behind_instance c.args.message) = stage (instance_part_lem c.args.message.instance) (s0.lent.back _ _ c.lay_datalink-at.ensures) in
    let s2 : Stage (control_written c.args.message) c.args.out.now (context_then c.args.message.context) (behind_context c.args.message) = stage (context_part_lem c.args.message.context) (s1.lent.back _ _ c.lay_instance-at.ensures) in
    let s3 : Stage (control_written c.args.message) c.args.out.now (statuses_then c.args.message.statuses) (behind_statuses c.args.message) = stage (statuses_part c.args.message.statuses) (s2.lent.back _ _ c.lay_context-at.ensures) in
    s3.lent.start

pub slice_bounds-lay_statuses-start : goal.slice_bounds-lay_statuses-start
slice_bounds-lay_statuses-start c =
    let s0 : Stage (control_written c.args.message) c.args.out.now (datalink_then c.args.message.datalink) (behind_datalink c.args.message) = stage (datalink_part_lem c.args.message.datalink) (control_header c.args.message c.args.out.now c.requires.message_in_bounds) in
    let s1 : Stage (control_written c.args.message) c.args.out.now (instance_then c.args.message.instance) (behind_instance c.args.message) = stage (instance_part_lem c.args.message.instance) (s0.lent.back _ _ c.lay_datalink-at.ensures) in
    let s2 : Stage (control_written c.args.message) c.args.out.now (context_then c.args.message.context) (behind_context c.args.message) = stage (context_part_lem c.args.message.context) (s1.lent.back _ _ c.lay_instance-at.ensures) in
    let s3 : Stage (control_written c.args.message) c.args.out.now (statuses_then c.args.message.statuses) (behind_statuses c.args.message) = stage (statuses_part c.args.message.statuses) (s2.lent.back _ _ c.lay_context-at.ensures) in
    s3.lent.start

pub lay_statuses-at-requires : goal.lay_statuses-at-requires
lay_statuses-at-requires c =
    let s0 : Stage (control_written c.args.message) c.args.out.now (datalink_then c.args.message.datalink) (behind_datalink c.args.message) = stage (datalink_part_lem c.args.message.datalink) (control_header c.args.message c.args.out.now c.requires.message_in_bounds) in
    let s1 : Stage (control_written c.args.message) c.args.out.now (instance_then c.args.message.instance) (behind_instance c.args.message) = stage (instance_part_lem c.args.message.instance) (s0.lent.back _ _ c.lay_datalink-at.ensures) in
    let s2 : Stage (control_written c.args.message) c.args.out.now (context_then c.args.message.context) (behind_context c.args.message) = stage (context_part_lem c.args.message.context) (s1.lent.back _ _ c.lay_instance-at.ensures) in
    let s3 : Stage (control_written c.args.message) c.args.out.now (statuses_then c.args.message.statuses) (behind_statuses c.args.message) = stage (statuses_part c.args.message.statuses) (s2.lent.back _ _ c.lay_context-at.ensures) in
    s3.lent.room

pub overflow_add-at-4 : goal.overflow_add-at-4
overflow_add-at-4 c =
    let s0 : Stage (control_written c.args.message) c.args.out.now (datalink_then c.args.message.datalink) (behind_datalink c.args.message) = stage (datalink_part_lem c.args.message.datalink) (control_header c.args.message c.args.out.now c.requires.message_in_bounds) in
    let s1 : Stage (control_written c.args.message) c.args.out.now (instance_then c.args.message.instance) (behind_instance c.args.message) = stage (instance_part_lem c.args.message.instance) (s0.lent.back _ _ c.lay_datalink-at.ensures) in
    let s2 : Stage (control_written c.args.message) c.args.out.now (context_then c.args.message.context) (behind_context c.args.message) = stage (context_part_lem c.args.message.context) (s1.lent.back _ _ c.lay_instance-at.ensures) in
    let s3 : Stage (control_written c.args.message) c.args.out.now (statuses_then c.args.message.statuses) (behind_statuses c.args.message) = stage (statuses_part c.args.message.statuses) (s2.lent.back _ _ c.lay_context-at.ensures) in
    omega (arith, s3.lent.fits _ c.lay_statuses-at.ensures.count_is)

pub slice_bounds-lay_sequences-count : goal.slice_bounds-lay_sequences-count
slice_bounds-lay_sequences-count c =
    let s0 : Stage (control_written c.args.message) c.args.out.now (datalink_then c.args.message.datalink) (behind_datalink c.args.message) = stage (datalink_part_lem c.args.message.datalink) (control_header c.args.message c.args.out.now c.requires.message_in_bounds) in
    let s1 : Stage (control_written c.args.message) c.args.out.now (instance_then c.args.message.instance) (behind_instance c.args.message) = stage (instance_part_lem c.args.message.instance) (s0.lent.back _ _ c.lay_datalink-at.ensures) in
    let s2 : Stage (control_written c.args.message) c.args.out.now (context_then c.args.message.context) (behind_context c.args.message) = stage (context_part_lem c.args.message.context) (s1.lent.back _ _ c.lay_instance-at.ensures) in
    let s3 : Stage (control_written c.args.message) c.args.out.now (statuses_then c.args.message.statuses) (behind_statuses c.args.message) = stage (statuses_part c.args.message.statuses) (s2.lent.back _ _ c.lay_context-at.ensures) in
    let s4 : Stage (control_written c.args.message) c.args.out.now (sequences_then c.args.message.sequences) (behind_sequences c.args.message) = stage (sequences_part c.args.message.sequences) (s3.lent.back _ _ c.lay_statuses-at.ensures) in
    s4.lent.start

pub slice_bounds-lay_sequences-start : goal.slice_bounds-lay_sequences-start
slice_bounds-lay_sequences-start c =
    let s0 : Stage (control_written c.args.message) c.args.out.now (datalink_then c.args.message.datalink) (behind_datalink c.args.message) = stage (datalink_part_lem c.args.message.datalink) (control_header c.args.message c.args.out.now c.requires.message_in_bounds) in
    let s1 : Stage (control_written c.args.message) c.args.out.now (instance_then c.args.message.instance) (behind_instance c.args.message) = stage (instance_part_lem c.args.message.instance) (s0.lent.back _ _ c.lay_datalink-at.ensures) in
    let s2 : Stage (control_written c.args.message) c.args.out.now (context_then c.args.message.context) (behind_context c.args.message) = stage (context_part_lem c.args.message.context) (s1.lent.back _ _ c.lay_instance-at.ensures) in
    let s3 : Stage (control_written c.args.message) c.args.out.now (statuses_then c.args.message.statuses) (behind_statuses c.args.message) = stage (statuses_part c.args.message.statuses) (s2.lent.back _ _ c.lay_context-at.ensures) in
    let s4 : Stage (control_written c.args.message) c.args.out.now (sequences_then c.args.message.sequences) (behind_sequences c.args.message) = stage (sequences_part c.args.message.sequences) (s3.lent.back _ _ c.lay_statuses-at.ensures) in
    s4.lent.start

pub lay_sequences-at-requires : goal.lay_sequences-at-requires
lay_sequences-at-requires c =
    let s0 : Stage (control_written c.args.message) c.args.out.now (datalink_then c.args.message.datalink) (behind_datalink c.args.message) = stage (datalink_part_lem c.args.message.datalink) (control_header c.args.message c.args.out.now c.requires.message_in_bounds) in
    let s1 : Stage (control_written c.args.message) c.args.out.now (instance_then c.args.message.instance) (behind_instance c.args.message) = stage (instance_part_lem c.args.message.instance) (s0.lent.back _ _ c.lay_datalink-at.ensures) in
    let s2 : Stage (control_written c.args.message) c.args.out.now (context_then c.args.message.context) (behind_context c.args.message) = stage (context_part_lem c.args.message.context) (s1.lent.back _ _ c.lay_instance-at.ensures) in
    let s3 : Stage (control_written c.args.message) c.args.out.now (statuses_then c.args.message.statuses) (behind_statuses c.args.message) = stage (statuses_part c.args.message.statuses) (s2.lent.back _ _ c.lay_context-at.ensures) in
    let s4 : Stage (control_written c.args.message) c.args.out.now (sequences_then c.args.message.sequences) (behind_sequences c.args.message) = stage (sequences_part c.args.message.sequences) (s3.lent.back _ _ c.lay_statuses-at.ensures) in
    s4.lent.room

pub overflow_add-at-5 : goal.overflow_add-at-5
overflow_add-at-5 c =
    let s0 : Stage (control_written c.args.message) c.args.out.now (datalink_then c.args.message.datalink) (behind_datalink c.args.message) = stage (datalink_part_lem c.args.message.datalink) (control_header c.args.message c.args.out.now c.requires.message_in_bounds) in
    let s1 : Stage (control_written c.args.message) c.args.out.now (instance_then c.args.message.instance) (behind_instance c.args.message) = stage (instance_part_lem c.args.message.instance) (s0.lent.back _ _ c.lay_datalink-at.ensures) in
    let s2 : Stage (control_written c.args.message) c.args.out.now (context_then c.args.message.context) (behind_context c.args.message) = stage (context_part_lem c.args.message.context) (s1.lent.back _ _ c.lay_instance-at.ensures) in
    let s3 : Stage (control_written c.args.message) c.args.out.now (statuses_then c.args.message.statuses) (behind_statuses c.args.message) = stage (statuses_part c.args.message.statuses) (s2.lent.back _ _ c.lay_context-at.ensures) in
    let s4 : Stage (control_written c.args.message) c.args.out.now (sequences_then c.args.message.sequences) (behind_sequences c.args.message) = stage (sequences_part c.args.message.sequences) (s3.lent.back _ _ c.lay_statuses-at.ensures) in
    omega (arith, s4.lent.fits _ c.lay_sequences-at.ensures.count_is)

pub slice_bounds-lay_windows-count : goal.slice_bounds-lay_windows-count
slice_bounds-lay_windows-count c =
    let s0 : Stage (control_written c.args.message) c.args.out.now (datalink_then c.args.message.datalink) (behind_datalink c.args.message) = stage (datalink_part_lem c.args.message.datalink) (control_header c.args.message c.args.out.now c.requires.message_in_bounds) in
    let s1 : Stage (control_written c.args.message) c.args.out.now (instance_then c.args.message.instance) (behind_instance c.args.message) = stage (instance_part_lem c.args.message.instance) (s0.lent.back _ _ c.lay_datalink-at.ensures) in
    let s2 : Stage (control_written c.args.message) c.args.out.now (context_then c.args.message.context) (behind_context c.args.message) = stage (context_part_lem c.args.message.context) (s1.lent.back _ _ c.lay_instance-at.ensures) in
    let s3 : Stage (control_written c.args.message) c.args.out.now (statuses_then c.args.message.statuses) (behind_statuses c.args.message) = stage (statuses_part c.args.message.statuses) (s2.lent.back _ _ c.lay_context-at.ensures) in
    let s4 : Stage (control_written c.args.message) c.args.out.now (sequences_then c.args.message.sequences) (behind_sequences c.args.message) = stage (sequences_part c.args.message.sequences) (s3.lent.back _ _ c.lay_statuses-at.ensures) in
    let s5 : Stage (control_written c.args.message) c.args.out.now (windows_then c.args.message.windows) (behind_windows c.args.message) = stage (windows_part c.args.message.windows) (s4.lent.back _ _ c.lay_sequences-at.ensures) in
    s5.lent.start

pub slice_bounds-lay_windows-start : goal.slice_bounds-lay_windows-start
slice_bounds-lay_windows-start c =
    let s0 : Stage (control_written c.args.message) c.args.out.now (datalink_then c.args.message.datalink) (behind_datalink c.args.message) = stage (datalink_part_lem c.args.message.datalink) (control_header c.args.message c.args.out.now c.requires.message_in_bounds) in
    let s1 : Stage (control_written c.args.message) c.args.out.now (instance_then c.args.message.instance) (behind_instance c.args.message) = stage (instance_part_lem c.args.message.instance) (s0.lent.back _ _ c.lay_datalink-at.ensures) in
    let s2 : Stage (control_written c.args.message) c.args.out.now (context_then c.args.message.context) (behind_context c.args.message) = stage (context_part_lem c.args.message.context) (s1.lent.back _ _ c.lay_instance-at.ensures) in
    let s3 : Stage (control_written c.args.message) c.args.out.now (statuses_then c.args.message.statuses) (behind_statuses c.args.message) = stage (statuses_part c.args.message.statuses) (s2.lent.back _ _ c.lay_context-at.ensures) in
    let s4 : Stage (control_written c.args.message) c.args.out.now (sequences_then c.args.message.sequences) (behind_sequences c.args.message) = stage (sequences_part c.args.message.sequences) (s3.lent.back _ _ c.lay_statuses-at.ensures) in
    let s5 : Stage (control_written c.args.message) c.args.out.now (windows_then c.args.message.windows) (behind_windows c.args.message) = stage (windows_part c.args.message.windows) (s4.lent.back _ _ c.lay_sequences-at.ensures) in
    s5.lent.start

pub lay_windows-at-requires : goal.lay_windows-at-requires
lay_windows-at-requires c =
    let s0 : Stage (control_written c.args.message) c.args.out.now (datalink_then c.args.message.datalink) (behind_datalink c.args.message) = stage (datalink_part_lem c.args.message.datalink) (control_header c.args.message c.args.out.now c.requires.message_in_bounds) in
    let s1 : Stage (control_written c.args.message) c.args.out.now (instance_then c.args.message.instance) (behind_instance c.args.message) = stage (instance_part_lem c.args.message.instance) (s0.lent.back _ _ c.lay_datalink-at.ensures) in
    let s2 : Stage (control_written c.args.message) c.args.out.now (context_then c.args.message.context) (behind_context c.args.message) = stage (context_part_lem c.args.message.context) (s1.lent.back _ _ c.lay_instance-at.ensures) in
    let s3 : Stage (control_written c.args.message) c.args.out.now (statuses_then c.args.message.statuses) (behind_statuses c.args.message) = stage (statuses_part c.args.message.statuses) (s2.lent.back _ _ c.lay_context-at.ensures) in
    let s4 : Stage (control_written c.args.message) c.args.out.now (sequences_then c.args.message.sequences) (behind_sequences c.args.message) = stage (sequences_part c.args.message.sequences) (s3.lent.back _ _ c.lay_statuses-at.ensures) in
    let s5 : Stage (control_written c.args.message) c.args.out.now (windows_then c.args.message.windows) (behind_windows c.args.message) = stage (windows_part c.args.message.windows) (s4.lent.back _ _ c.lay_sequences-at.ensures) in
    s5.lent.room

pub overflow_add-at-6 : goal.overflow_add-at-6
overflow_add-at-6 c =
    let s0 : Stage (control_written c.args.message) c.args.out.now (datalink_then c.args.message.datalink) (behind_datalink c.args.message) = stage (datalink_part_lem c.args.message.datalink) (control_header c.args.message c.args.out.now c.requires.message_in_bounds) in
    let s1 : Stage (control_written c.args.message) c.args.out.now (instance_then c.args.message.instance) (behind_instance c.args.message) = stage (instance_part_lem c.args.message.instance) (s0.lent.back _ _ c.lay_datalink-at.ensures) in
    let s2 : Stage (control_written c.args.message) c.args.out.now (context_then c.args.message.context) (behind_context c.args.message) = stage (context_part_lem c.args.message.context) (s1.lent.back _ _ c.lay_instance-at.ensures) in
    let s3 : Stage (control_written c.args.message) c.args.out.now (statuses_then c.args.message.statuses) (behind_statuses c.args.message) = stage (statuses_part c.args.message.statuses) (s2.lent.back _ _ c.lay_context-at.ensures) in
    let s4 : Stage (control_written c.args.message) c.args.out.now (sequences_then c.args.message.sequences) (behind_sequences c.args.message) = stage (sequences_part c.args.message.sequences) (s3.lent.back _ _ c.lay_statuses-at.ensures) in
    let s5 : Stage (control_written c.args.message) c.args.out.now (windows_then c.args.message.windows) (behind_windows c.args.message) = stage (windows_part c.args.message.windows) (s4.lent.back _ _ c.lay_sequences-at.ensures) in
    omega (arith, s5.lent.fits _ c.lay_windows-at.ensures.count_is, c.well_formed)

pub shape_of-out : goal.shape_of-out
shape_of-out c =
    let s0 : Stage (control_written c.args.message) c.args.out.now (datalink_then c.args.message.datalink) (behind_datalink c.args.message) = stage (datalink_part_lem c.args.message.datalink) (control_header c.args.message c.args.out.now c.requires.message_in_bounds) in
    let s1 : Stage (control_written c.args.message) c.args.out.now (instance_then c.args.message.instance) (behind_instance c.args.message) = stage (instance_part_lem c.args.message.instance) (s0.lent.back _ _ c.lay_datalink-at.ensures) in
    let s2 : Stage (control_written c.args.message) c.args.out.now (context_then c.args.message.context) (behind_context c.args.message) = stage (context_part_lem c.args.message.context) (s1.lent.back _ _ c.lay_instance-at.ensures) in
    let s3 : Stage (control_written c.args.message) c.args.out.now (statuses_then c.args.message.statuses) (behind_statuses c.args.message) = stage (statuses_part c.args.message.statuses) (s2.lent.back _ _ c.lay_context-at.ensures) in
    let s4 : Stage (control_written c.args.message) c.args.out.now (sequences_then c.args.message.sequences) (behind_sequences c.args.message) = stage (sequences_part c.args.message.sequences) (s3.lent.back _ _ c.lay_statuses-at.ensures) in
    let s5 : Stage (control_written c.args.message) c.args.out.now (windows_then c.args.message.windows) (behind_windows c.args.message) = stage (windows_part c.args.message.windows) (s4.lent.back _ _ c.lay_sequences-at.ensures) in
    (s5.lent.back _ _ c.lay_windows-at.ensures).long

pub returns : goal.returns
returns c =
    let s0 : Stage (control_written c.args.message) c.args.out.now (datalink_then c.args.message.datalink) (behind_datalink c.args.message) = stage (datalink_part_lem c.args.message.datalink) (control_header c.args.message c.args.out.now c.requires.message_in_bounds) in
    let s1 : Stage (control_written c.args.message) c.args.out.now (instance_then c.args.message.instance) (behind_instance c.args.message) = stage (instance_part_lem c.args.message.instance) (s0.lent.back _ _ c.lay_datalink-at.ensures) in
    let s2 : Stage (control_written c.args.message) c.args.out.now (context_then c.args.message.context) (behind_context c.args.message) = stage (context_part_lem c.args.message.context) (s1.lent.back _ _ c.lay_instance-at.ensures) in
    let s3 : Stage (control_written c.args.message) c.args.out.now (statuses_then c.args.message.statuses) (behind_statuses c.args.message) = stage (statuses_part c.args.message.statuses) (s2.lent.back _ _ c.lay_context-at.ensures) in
    let s4 : Stage (control_written c.args.message) c.args.out.now (sequences_then c.args.message.sequences) (behind_sequences c.args.message) = stage (sequences_part c.args.message.sequences) (s3.lent.back _ _ c.lay_statuses-at.ensures) in
    let s5 : Stage (control_written c.args.message) c.args.out.now (windows_then c.args.message.windows) (behind_windows c.args.message) = stage (windows_part c.args.message.windows) (s4.lent.back _ _ c.lay_sequences-at.ensures) in
    standing_end (s5.lent.back _ _ c.lay_windows-at.ensures)
