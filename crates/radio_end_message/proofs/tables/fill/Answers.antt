-- `tables::fill` meets its contract. Assumes nothing.
use mathlib.Core.Path.{sym, ◌∙◌}
use Rattle.radio_end_words.specs.Words.{state_in}
use Rattle.radio_end_message.proofs.Filling.{fill_start, fill_end, changed_length, turn_small, fill_turn}
use Rattle.radio_end_message.proofs.tables.fill.Goals as goal

pub loop-at-init : goal.loop-at-init
loop-at-init c = fill_start _ _ (c.count-at.ensures ∙ sym (changed_length _ _ _ _))

pub bounds-sequences-id : goal.bounds-sequences-id
bounds-sequences-id c = turn_small (state_in c.args.words.now) c.args.index c.args.channel c.args.sequences _ _ _ c.loop-at.invariant c.loop-at-test.true _ c.current-before.ensures c.requires

pub bounds-statuses-id : goal.bounds-statuses-id
bounds-statuses-id c = turn_small (state_in c.args.words.now) c.args.index c.args.channel c.args.sequences _ _ _ c.loop-at.invariant c.loop-at-test.true _ c.current-before.ensures c.requires

pub bounds-windows-id : goal.bounds-windows-id
bounds-windows-id c = turn_small (state_in c.args.words.now) c.args.index c.args.channel c.args.sequences _ _ _ c.loop-at.invariant c.loop-at-test.true _ c.current-before.ensures c.requires

pub loop-at-preserved : goal.loop-at-preserved
loop-at-preserved c = fill_turn (state_in c.args.words.now) c.args.index c.args.channel c.args.sequences _ _ _ c.loop-at.invariant c.loop-at-test.true _ c.current-before.ensures _ _ c.hear-heard.ensures c.window-window.ensures

pub returns : goal.returns
returns c = fill_end _ _ _ _ c.loop-at.invariant c.loop-at-test.false
