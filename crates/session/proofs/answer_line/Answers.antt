-- `answer_line` meets its contract: what was read of a line decides whether it is about a state, and a message's answer is its definition's. Assumes nothing.
use Rattle.std.proofs.Common.{refl, sym, ◌∙◌}
use Rattle.session.proofs.Laws.{answers_state, answers_message}
use Rattle.session.proofs.answer_line.Goals as goal

pub returns-then-about_state : goal.returns-then-about_state
returns-then-about_state c = answers_state c.read-said.ensures _ (sym c.about_state.ensures ∙ c.if-about_state.true)

pub returns : goal.returns
returns c = rw c.still_held.ensures (answers_message c.read-said.ensures _ refl c.message.ensures)
