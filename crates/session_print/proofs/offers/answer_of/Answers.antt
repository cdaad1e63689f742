-- `offers::answer_of` meets its contract. Assumes nothing.
use borrow.Author.Tests.{eq-eqb, ne_eqb}
use Rattle.ips_channel_calls.specs.Calls.{answer_of}
use Rattle.session_print.proofs.offers.answer_of.Goals as goal

pub returns-then-number-eq0 : goal.returns-then-number-eq0
unfolding answer_of
returns-then-number-eq0 c = rw (eq-eqb _ 0 c.if-number-eq0.true)

pub returns : goal.returns
unfolding answer_of
returns c = rw (ne_eqb _ 0 c.if-number-eq0.false)
