-- `save_heard` meets its contract. Assumes nothing.
use native.Mathlib.Omega.{arith}
use mathlib.Core.Path.{sym, ◌∙◌}
use Rattle.radio_end_words.proofs.Placing.{fit_length}
use Rattle.radio_end_hearing.proofs.Passing.{more_by, end_by, hear_start, hear_length, here_few, here_ends, here_loadable, here_small, hear_on, hear_end}
use Rattle.radio_end_hearing.proofs.save_heard.Goals as goal

pub loop-index-init : goal.loop-index-init
loop-index-init c = hear_start _ _ c.requires

pub overflow_mul-from : goal.overflow_mul-from
overflow_mul-from c = omega (arith, here_few _ c.requires _ _ _ c.loop-index.invariant (more_by _ _ _ c.count-count.ensures c.loop-index-test.true))

pub overflow_add-from : goal.overflow_add-from
overflow_add-from c = omega (arith, here_few _ c.requires _ _ _ c.loop-index.invariant (more_by _ _ _ c.count-count.ensures c.loop-index-test.true))

pub overflow_add-to : goal.overflow_add-to
overflow_add-to c = omega (arith, here_few _ c.requires _ _ _ c.loop-index.invariant (more_by _ _ _ c.count-count.ensures c.loop-index-test.true))

pub offset_bounds-words-from : goal.offset_bounds-words-from
offset_bounds-words-from c = omega (arith, here_few _ c.requires _ _ _ c.loop-index.invariant (more_by _ _ _ c.count-count.ensures c.loop-index-test.true))

pub slice_bounds-load-end : goal.slice_bounds-load-end
slice_bounds-load-end c = here_ends _ c.requires _ _ _ c.loop-index.invariant (more_by _ _ _ c.count-count.ensures c.loop-index-test.true)

pub load-before-requires : goal.load-before-requires
load-before-requires c = here_loadable _ c.requires _ _ _ c.loop-index.invariant (more_by _ _ _ c.count-count.ensures c.loop-index-test.true)

pub bounds-message-before : goal.bounds-message-before
bounds-message-before c = here_small _ c.requires _ _ _ c.loop-index.invariant (more_by _ _ _ c.count-count.ensures c.loop-index-test.true) _ c.load-before.ensures

pub offset_bounds-words-from-in-loop-index : goal.offset_bounds-words-from-in-loop-index
offset_bounds-words-from-in-loop-index c = omega (arith, here_few _ c.requires _ _ _ c.loop-index.invariant (more_by _ _ _ c.count-count.ensures c.loop-index-test.true))

pub loop-index-preserved : goal.loop-index-preserved
loop-index-preserved c = hear_on _ c.requires _ _ _ c.loop-index.invariant (more_by _ _ _ c.count-count.ensures c.loop-index-test.true) _ _ c.load-before.ensures c.hear-heard.ensures _ c.save.ensures

pub shape_of-words : goal.shape_of-words
shape_of-words c = hear_length _ c.requires _ _ _ c.loop-index.invariant ∙ sym (fit_length _ c.requires)

pub returns : goal.returns
returns c = hear_end _ c.requires _ _ _ c.loop-index.invariant (end_by _ _ _ c.count-count.ensures c.loop-index-test.false)
