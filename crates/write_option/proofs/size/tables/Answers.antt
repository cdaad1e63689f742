-- `size::tables` meets its contract. The loop's invariant: what is counted and the channels from here on make the whole. Assumes nothing.
use borrow.Author.Rules.{rules}
use Rattle.facts.proofs.Lists.{length_mapped}
use Rattle.write_option.proofs.Tables.{counting_start, counting_turn, counting_end}
use Rattle.write_option.proofs.size.tables.Goals as goal

pub loop-channel-init : goal.loop-channel-init
loop-channel-init c = counting_start _ _ _ (record { statuses_full = search (length_mapped, rules); sequences_full = search (length_mapped, rules); windows_full = search (length_mapped, rules) })

pub loop-channel-preserved : goal.loop-channel-preserved
loop-channel-preserved c = counting_turn _ _ _ _ _ _ c.loop-channel-test.true c.cells-total.ensures c.loop-channel.invariant

pub returns : goal.returns
returns c = counting_end _ _ _ _ _ c.loop-channel-test.false c.loop-channel.invariant
