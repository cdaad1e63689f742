-- `row::length_laid` meets its contract. Assumes nothing.
use Rattle.line_rows.proofs.Laws.{laid_bytes, laid_nothing}
use Rattle.line_rows.proofs.row.length_laid.Goals as goal

pub returns-then-a-eq-BYTES : goal.returns-then-a-eq-BYTES
returns-then-a-eq-BYTES c = laid_bytes _ _ c.if-a-eq-BYTES.true

pub returns : goal.returns
returns c = laid_nothing _ _ c.if-a-eq-BYTES.false
