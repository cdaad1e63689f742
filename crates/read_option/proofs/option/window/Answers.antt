-- `option::window` meets its contract, way by way. Assumes nothing.
-- behind the test of the length
use mathlib.Core.Path.{◌≡◌, sym, ◌∙◌}
use mathlib.Core.Bool.{true}
use native.Mathlib.Omega.{arith}
use borrow.Author.Tests.{le-ltb, lt-ltb, eq-eqb, ne_eqb}
use lib.ListN.{length, length-drop}
use Rattle.facts.proofs.Lists.{rest_part}
use Rattle.quantity.specs.Limits.{RESERVED-CHANNEL}
use Rattle.meaning.specs.Kinds.{length_listed, value_listed, FLOW-WINDOW}
use Rattle.read_option.specs.Items.{item_of, stated_of}
use Rattle.read_option.proofs.Contents.{window_there, window_five}
use Rattle.read_option.proofs.option.window.Goals as goal

pub returns-then-not-is_window_length : goal.returns-then-not-is_window_length
unfolding stated_of
returns-then-not-is_window_length c = rw (sym c.is_window_length.ensures ∙ c.if-not-is_window_length.true)

pub bounds-content-0 : goal.bounds-content-0
bounds-content-0 c = window_there _ ((let the_listed : length_listed FLOW-WINDOW (length c.args.content.now) ≡ true = sym c.is_window_length.ensures ∙ c.if-not-is_window_length.false in the_listed))

pub returns-then-channel-ge-RESERVED_CHANNEL : goal.returns-then-channel-ge-RESERVED_CHANNEL
unfolding stated_of value_listed
returns-then-channel-ge-RESERVED_CHANNEL c = simp ((let the_listed : length_listed FLOW-WINDOW (length c.args.content.now) ≡ true = sym c.is_window_length.ensures ∙ c.if-not-is_window_length.false in the_listed), le-ltb _ RESERVED-CHANNEL c.if-channel-ge-RESERVED_CHANNEL.true)

pub returns-then-n-eq1 : goal.returns-then-n-eq1
unfolding stated_of value_listed item_of
returns-then-n-eq1 c = simp ((let the_listed : length_listed FLOW-WINDOW (length c.args.content.now) ≡ true = sym c.is_window_length.ensures ∙ c.if-not-is_window_length.false in the_listed), lt-ltb _ RESERVED-CHANNEL c.if-channel-ge-RESERVED_CHANNEL.false, eq-eqb _ 1 c.if-n-eq1.true)

pub slice_bounds-read-count : goal.slice_bounds-read-count
slice_bounds-read-count c = omega (arith, (let the_five : length c.args.content.now ≡ 5 = window_five _ ((let the_listed : length_listed FLOW-WINDOW (length c.args.content.now) ≡ true = sym c.is_window_length.ensures ∙ c.if-not-is_window_length.false in the_listed)) c.if-n-eq1.false in the_five))

pub slice_bounds-read-start : goal.slice_bounds-read-start
slice_bounds-read-start c = omega (arith, (let the_five : length c.args.content.now ≡ 5 = window_five _ ((let the_listed : length_listed FLOW-WINDOW (length c.args.content.now) ≡ true = sym c.is_window_length.ensures ∙ c.if-not-is_window_length.false in the_listed)) c.if-n-eq1.false in the_five))

pub read-word-requires : goal.read-word-requires
read-word-requires c = rw (rest_part, length-drop, (let the_five : length c.args.content.now ≡ 5 = window_five _ ((let the_listed : length_listed FLOW-WINDOW (length c.args.content.now) ≡ true = sym c.is_window_length.ensures ∙ c.if-not-is_window_length.false in the_listed)) c.if-n-eq1.false in the_five)) (omega arith)

pub overflow_cast-word : goal.overflow_cast-word
overflow_cast-word c = record { fits = rw (rest_part, length-drop, (let the_five : length c.args.content.now ≡ 5 = window_five _ ((let the_listed : length_listed FLOW-WINDOW (length c.args.content.now) ≡ true = sym c.is_window_length.ensures ∙ c.if-not-is_window_length.false in the_listed)) c.if-n-eq1.false in the_five)) at c.read-word.ensures.below }

pub returns : goal.returns
unfolding stated_of value_listed item_of
returns c = simp ((let the_listed : length_listed FLOW-WINDOW (length c.args.content.now) ≡ true = sym c.is_window_length.ensures ∙ c.if-not-is_window_length.false in the_listed), lt-ltb _ RESERVED-CHANNEL c.if-channel-ge-RESERVED_CHANNEL.false, ne_eqb _ 1 c.if-n-eq1.false, c.read-word.ensures.value, rest_part)
