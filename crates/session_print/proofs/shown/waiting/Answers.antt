-- `shown::waiting` meets its contract. The loop's invariant: what is left to say gives the whole. Assumes nothing.
use mathlib.Core.Path.{◌≡◌}
use borrow.Author.Rules.{rules}
use lib.ListN.{length}
use Rattle.facts.proofs.Lists.{length_mapped}
use Rattle.quantity.specs.Limits.{MOST-WAITING}
use Rattle.store.specs.Waiting.{no_entry}
use Rattle.message_words.proofs.Saying.{saying_on}
use Rattle.session_print.proofs.Showing.{entry_texts, waiting_end}
use Rattle.session_print.proofs.shown.waiting.Goals as goal

pub loop-entry-preserved : goal.loop-entry-preserved
loop-entry-preserved c = saying_on entry_texts no_entry c.loop-entry.invariant c.loop-entry-test.true c.paired-behind.ensures

pub returns : goal.returns
returns c =
    let full : length c.args.queue.entries ≡ MOST-WAITING = search (length_mapped, rules) in
    waiting_end c.args.queue full c.min.ensures c.loop-entry.invariant c.loop-entry-test.false c.labelled-behind.ensures
