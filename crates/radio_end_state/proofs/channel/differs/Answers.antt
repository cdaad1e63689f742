-- `channel::differs` meets its contract. Assumes nothing.
use Rattle.radio_end_state.specs.Channel.{channel_differs}
use borrow.Author.Tests.{eq-eqb, ne_eqb}
use Rattle.radio_end_state.proofs.channel.differs.Goals as goal

pub returns-then-before-after : goal.returns-then-before-after
unfolding channel_differs
returns-then-before-after c = rw (ne_eqb c.args.before.status c.args.after.status c.if-before-after.true)

pub returns : goal.returns
unfolding channel_differs
returns c = rw (eq-eqb c.args.before.status c.args.after.status c.if-before-after.false, c.same.ensures, c.window-2.ensures, c.window.ensures)
