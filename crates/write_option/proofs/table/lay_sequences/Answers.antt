-- `table::lay_sequences` meets its contract, by the law of any table. The loop's invariant: the options of the channels from here on are left to be laid. Assumes nothing.
use borrow.Author.Rules.{rules}
use native.Mathlib.Omega.{arith}
use Rattle.facts.proofs.Lists.{length_mapped}
use Rattle.write_option.proofs.Tables.{sequence_table, Turn, going_start, going_lent, going_on, going_end}
use Rattle.write_option.proofs.table.lay_sequences.Goals as goal

pub loop-channel-init : goal.loop-channel-init
loop-channel-init c = going_start sequence_table _ (search (length_mapped, rules)) c.requires

pub slice_bounds-lay_sequence-count : goal.slice_bounds-lay_sequence-count
slice_bounds-lay_sequence-count c = ((let the_lent : Turn sequence_table c.args.cells c.args.out.now c.loop-channel.channel c.loop-channel.at c.loop-channel.out = going_lent sequence_table _ c.loop-channel.invariant c.loop-channel-test.true in the_lent)).start

pub slice_bounds-lay_sequence-start : goal.slice_bounds-lay_sequence-start
slice_bounds-lay_sequence-start c = ((let the_lent : Turn sequence_table c.args.cells c.args.out.now c.loop-channel.channel c.loop-channel.at c.loop-channel.out = going_lent sequence_table _ c.loop-channel.invariant c.loop-channel-test.true in the_lent)).start

pub lay_sequence-at-requires : goal.lay_sequence-at-requires
lay_sequence-at-requires c = ((let the_lent : Turn sequence_table c.args.cells c.args.out.now c.loop-channel.channel c.loop-channel.at c.loop-channel.out = going_lent sequence_table _ c.loop-channel.invariant c.loop-channel-test.true in the_lent)).room

pub overflow_add-at : goal.overflow_add-at
overflow_add-at c = omega (arith, ((let the_lent : Turn sequence_table c.args.cells c.args.out.now c.loop-channel.channel c.loop-channel.at c.loop-channel.out = going_lent sequence_table _ c.loop-channel.invariant c.loop-channel-test.true in the_lent)).fits _ c.lay_sequence-at.ensures.count_is)

pub loop-channel-preserved : goal.loop-channel-preserved
loop-channel-preserved c = going_on sequence_table _ c.loop-channel.invariant c.loop-channel-test.true c.lay_sequence-at.ensures

pub shape_of-out : goal.shape_of-out
shape_of-out c = c.loop-channel.invariant.standing.long

pub returns : goal.returns
returns c = going_end sequence_table _ c.loop-channel.invariant c.loop-channel-test.false
