-- `silence` meets its contract: the law of each turn is `Hears`'s. Assumes nothing.
use mathlib.Core.Path.{refl}
use native.Mathlib.Omega.{arith}
use Rattle.ips_words_radio.specs.HeardWords.{silenced_words}
use Rattle.ips_words_radio.proofs.Hearing.{head_there, hears_start, from_few, slot_ends, hears_turn, hears_end}
use Rattle.ips_words_radio.proofs.silence.Goals as goal

pub bounds-words-1 : goal.bounds-words-1
bounds-words-1 c = omega (arith, head_there _ c.requires)

pub loop-at-init : goal.loop-at-init
loop-at-init c = hears_start _ _ _ _ c.requires c.narrow-count.ensures

pub overflow_mul-from : goal.overflow_mul-from
overflow_mul-from c = omega (arith, from_few _ _ _ _ _ _ c.loop-at.invariant c.loop-at-test.true)

pub overflow_add-from : goal.overflow_add-from
overflow_add-from c = omega (arith, from_few _ _ _ _ _ _ c.loop-at.invariant c.loop-at-test.true)

pub overflow_add-end : goal.overflow_add-end
overflow_add-end c = omega (arith, from_few _ _ _ _ _ _ c.loop-at.invariant c.loop-at-test.true)

pub offset_bounds-words-from : goal.offset_bounds-words-from
offset_bounds-words-from c = omega (arith, from_few _ _ _ _ _ _ c.loop-at.invariant c.loop-at-test.true)

pub slice_bounds-silence_slot-end : goal.slice_bounds-silence_slot-end
slice_bounds-silence_slot-end c = slot_ends _ _ _ _ _ _ c.loop-at.invariant c.loop-at-test.true

pub loop-at-preserved : goal.loop-at-preserved
loop-at-preserved c = hears_turn _ _ _ _ _ _ c.loop-at.invariant c.loop-at-test.true _ refl _ c.silence_slot.ensures

pub returns : goal.returns
unfolding silenced_words
returns c = hears_end _ _ _ _ _ _ c.loop-at.invariant c.loop-at-test.false
