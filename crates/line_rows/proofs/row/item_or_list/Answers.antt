-- `row::item_or_list` meets its contract, way by way. Assumes nothing.
use Rattle.line_rows.proofs.Laws.{part_over, part_many, part_one}
use Rattle.line_rows.proofs.row.item_or_list.Goals as goal

pub returns-then-skip-gt0 : goal.returns-then-skip-gt0
returns-then-skip-gt0 c = part_over _ _ _ _ _ _ _ _ c.if-skip-gt0.true c.requires

pub returns : goal.returns
returns c = part_one _ _ _ _ _ _ _ _ c.if-skip-gt0.false c.if-a-eq-LIST.false c.item.ensures

pub returns-then-a-eq-LIST : goal.returns-then-a-eq-LIST
returns-then-a-eq-LIST c = part_many _ _ _ _ _ _ _ _ c.if-skip-gt0.false c.if-a-eq-LIST.true c.last_number-count.ensures c.first_items.ensures c.list.ensures
