-- `codes::window` meets its contract. Assumes nothing.
use Rattle.note_control.proofs.Windows.{given_code}
use Rattle.note_control.proofs.codes.window.Goals as goal

pub returns-then-tag-eq-ABSENT_WINDOW : goal.returns-then-tag-eq-ABSENT_WINDOW
returns-then-tag-eq-ABSENT_WINDOW c = rw c.if-tag-eq-ABSENT_WINDOW.true

pub returns-then-tag-eq-EMPTY_WINDOW : goal.returns-then-tag-eq-EMPTY_WINDOW
returns-then-tag-eq-EMPTY_WINDOW c = rw c.if-tag-eq-EMPTY_WINDOW.true

pub returns : goal.returns
returns c = given_code _ _ c.if-tag-eq-ABSENT_WINDOW.false c.if-tag-eq-EMPTY_WINDOW.false
