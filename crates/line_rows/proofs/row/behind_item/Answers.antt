-- `row::behind_item` meets its contract. Assumes nothing.
use Rattle.line_rows.proofs.Laws.{behind_word, behind_not_there, behind_there}
use Rattle.line_rows.proofs.row.behind_item.Goals as goal

pub returns-then-a-ne-OPTIONAL : goal.returns-then-a-ne-OPTIONAL
returns-then-a-ne-OPTIONAL c = behind_word c.args.at _ _ c.if-a-ne-OPTIONAL.true c.behind_word.ensures

pub returns-then-value-eq0 : goal.returns-then-value-eq0
returns-then-value-eq0 c = behind_not_there _ _ _ c.requires c.if-a-ne-OPTIONAL.false c.if-value-eq0.true

pub returns : goal.returns
returns c = behind_there c.args.at _ _ c.if-value-eq0.false c.behind_word-2.ensures
