-- `judged::adds_up` meets its contract: the law of each turn is `Summing`'s. Assumes nothing.
use Rattle.handful.proofs.Summing.{adding_next, adding_more, adding_end}
use Rattle.handful.proofs.judged.adds_up.Goals as goal

pub returns-then-length-left : goal.returns-then-length-left
returns-then-length-left c = adding_more _ _ _ _ c.loop-each.invariant c.loop-each-test.true _ c.narrow-length.ensures c.if-length-left.true

pub loop-each-preserved : goal.loop-each-preserved
loop-each-preserved c = adding_next _ _ _ _ c.loop-each.invariant c.loop-each-test.true _ c.narrow-length.ensures c.if-length-left.false

pub returns : goal.returns
returns c = adding_end _ _ _ _ c.loop-each.invariant c.loop-each-test.false
