-- `table::lay_windows` meets its contract, by the law of any table. The loop's invariant: the options of the channels from here on are left to be laid. Assumes nothing.
use borrow.Author.Rules.{rules}
use native.Mathlib.Omega.{arith}
use Rattle.facts.proofs.Lists.{length_mapped}
use Rattle.write_option.proofs.Tables.{window_table, Turn, going_start, going_lent, going_on, going_end}
use Rattle.write_option.proofs.table.lay_windows.Goals as goal

pub loop-channel-init : goal.loop-channel-init
loop-channel-init c = going_start window_table _ (search (length_mapped, rules)) c.requires

pub slice_bounds-lay_window-count : goal.slice_bounds-lay_window-count
slice_bounds-lay_window-count c = ((let the_lent : Turn window_table c.args.cells c.args.out.now c.loop-channel.channel c.loop-channel.at c.loop-channel.out = going_lent window_table _ c.loop-channel.invariant c.loop-channel-test.true in the_lent)).start

pub slice_bounds-lay_window-start : goal.slice_bounds-lay_window-start
slice_bounds-lay_window-start c = ((let the_lent : Turn window_table c.args.cells c.args.out.now c.loop-channel.channel c.loop-channel.at c.loop-channel.out = going_lent window_table _ c.loop-channel.invariant c.loop-channel-test.true in the_lent)).start

pub lay_window-at-requires : goal.lay_window-at-requires
lay_window-at-requires c = ((let the_lent : Turn window_table c.args.cells c.args.out.now c.loop-channel.channel c.loop-channel.at c.loop-channel.out = going_lent window_table _ c.loop-channel.invariant c.loop-channel-test.true in the_lent)).room

pub overflow_add-at : goal.overflow_add-at
overflow_add-at c = omega (arith, ((let the_lent : Turn window_table c.args.cells c.args.out.now c.loop-channel.channel c.loop-channel.at c.loop-channel.out = going_lent window_table _ c.loop-channel.invariant c.loop-channel-test.true in the_lent)).fits _ c.lay_window-at.ensures.count_is)

pub loop-channel-preserved : goal.loop-channel-preserved
loop-channel-preserved c = going_on window_table _ c.loop-channel.invariant c.loop-channel-test.true c.lay_window-at.ensures

pub shape_of-out : goal.shape_of-out
shape_of-out c = c.loop-channel.invariant.standing.long

pub returns : goal.returns
returns c = going_end window_table _ c.loop-channel.invariant c.loop-channel-test.false
