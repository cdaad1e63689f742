-- `row::item` meets its contract, way by way. Assumes nothing.
use borrow.Author.Tests.{not-true, not-false}
use Rattle.line_rows.proofs.Laws.{advance_idle, advance_full, advance_bad, advance_value}
use Rattle.line_rows.proofs.row.item.Goals as goal

pub returns-then-not-s : goal.returns-then-not-s
returns-then-not-s c = advance_idle c.args.line.now c.args.s c.args.numbers.now c.args.bytes.now c.requires c.args.a c.args.b (not-true _ c.if-not-s.true)

pub returns-then-n-numbers : goal.returns-then-n-numbers
returns-then-n-numbers c = advance_full c.args.line.now c.args.s c.args.numbers.now c.args.bytes.now c.requires c.args.a c.args.b (not-false _ c.if-not-s.false) c.if-n-numbers.true c.stop.ensures

pub returns-in_default : goal.returns-in_default
returns-in_default c = advance_bad c.args.line.now c.args.s c.args.numbers.now c.args.bytes.now c.requires c.args.a c.args.b (not-false _ c.if-not-s.false) c.if-n-numbers.false c.word.ensures c.value.ensures c.in_default.is c.stop-in_default.ensures

pub returns : goal.returns
returns c = advance_value c.args.line.now c.args.s c.args.numbers.now c.args.bytes.now c.requires c.args.a c.args.b (not-false _ c.if-not-s.false) c.if-n-numbers.false c.word.ensures c.value.ensures c.in-Some.is c.length_laid.ensures c.behind_item-next.ensures
