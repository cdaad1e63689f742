-- `lay::lay_sequences` meets its contract. The loop's invariant: the Flow Sequences from the place on are left to be laid. Assumes nothing.
use Rattle.ips_words_query.proofs.Laying.{Turn, going_low, going_lent, going_on, going_end}
use Rattle.ips_words_query.proofs.lay.lay_sequences.Goals as goal

pub lay_sequence-at-requires : goal.lay_sequence-at-requires
lay_sequence-at-requires c = record { content_bound = going_low _ c.loop-content.invariant c.loop-content-test.true; content_in_bounds = ((let the_lent : Turn c.args.contents.now c.args.out.now c.loop-content.content-index c.loop-content.at c.loop-content.out = going_lent _ c.loop-content.invariant c.loop-content-test.true in the_lent)).room }

pub loop-content-preserved : goal.loop-content-preserved
loop-content-preserved c = going_on _ c.loop-content.invariant c.loop-content-test.true c.lay_sequence-at.ensures

pub returns : goal.returns
returns c = going_end _ c.loop-content.invariant c.loop-content-test.false
