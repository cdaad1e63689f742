-- `offers::handed` meets its contract. The loop's invariant: what is left to say gives the whole. Assumes nothing.
use Rattle.message_words.proofs.Saying.{saying_on}
use Rattle.session_print.proofs.Handing.{placed_texts, says_offers}
use Rattle.session_print.proofs.offers.handed.Goals as goal

pub loop-number-preserved : goal.loop-number-preserved
loop-number-preserved c = saying_on placed_texts 0 c.loop-number.invariant c.loop-number-test.true c.another-behind.ensures

pub returns : goal.returns
returns c = says_offers c.put-behind.ensures c.loop-number.invariant c.loop-number-test.false
