-- `word::value` meets its contract, kind by kind. Assumes nothing.
use Rattle.line_rows.proofs.Laws.{value_number, value_no_bytes, value_bytes, value_there, value_not_there, value_choice}
use Rattle.line_rows.proofs.word.value.Goals as goal

pub returns-then-a-eq-NUMBER : goal.returns-then-a-eq-NUMBER
returns-then-a-eq-NUMBER c = value_number _ _ _ _ c.if-a-eq-NUMBER.true c.parse.ensures

pub returns-in_err-n : goal.returns-in_err-n
returns-in_err-n c = rw c.from_residual.ensures (value_no_bytes _ _ _ _ c.if-a-eq-BYTES.true c.unhex.ensures.value c.unhex.ensures.out_after c.in_err-n.was)

pub returns-then-a-eq-BYTES : goal.returns-then-a-eq-BYTES
returns-then-a-eq-BYTES c = value_bytes _ _ _ _ c.if-a-eq-BYTES.true c.unhex.ensures.value c.unhex.ensures.out_after c.in_ok-n.was

pub returns-then-spells : goal.returns-then-spells
returns-then-spells c = value_there _ _ _ _ c.if-a-eq-OPTIONAL.true c.spells.ensures c.if-spells.true

pub returns-then-a-eq-OPTIONAL : goal.returns-then-a-eq-OPTIONAL
returns-then-a-eq-OPTIONAL c = value_not_there _ _ _ _ c.if-a-eq-OPTIONAL.true c.spells.ensures c.if-spells.false

pub returns : goal.returns
returns c = value_choice _ _ _ _ c.if-a-eq-NUMBER.false c.if-a-eq-BYTES.false c.if-a-eq-OPTIONAL.false c.choice.ensures
