-- `data_accepted` meets its contract. Assumes nothing.
use mathlib.Core.Path.{sym, ap, ◌∙◌}
use Rattle.std.proofs.lemmas.Result.{err_from_is_err_and}
use Rattle.radio_end_words.specs.Words.{state_in}
use Rattle.radio_end_state.specs.Calls.{data_on}
use Rattle.radio_end_telling.specs.Left.{found_of}
use Rattle.radio_end_telling.proofs.Settling.{found_at, found_placed}
use Rattle.radio_end_hearing.proofs.Heard.{data_unfound, data_done, data_settles}
use Rattle.radio_end_hearing.proofs.data_accepted.Goals as goal

pub load-before-requires : goal.load-before-requires
load-before-requires c = found_placed _ _ _ (found_at _ _ _ (sym c.in_ok-index.was ∙ c.find.ensures ∙ ap (found_of (state_in c.args.words.now)) c.named.ensures))

pub channel-requires : goal.channel-requires
unfolding data_on
channel-requires c = data_settles c.args.words.now c.args.message c.args.bytes _ (found_at _ _ _ (sym c.in_ok-index.was ∙ c.find.ensures ∙ ap (found_of (state_in c.args.words.now)) c.named.ensures)) c.load-before.result c.queue.result c.load-before.ensures (c.queue.ensures ∙ rw (c.hear-heard.ensures, c.counted.ensures))

pub returns : goal.returns
unfolding data_on
returns c = data_done _ _ _ _ _ (found_at _ _ _ (sym c.in_ok-index.was ∙ c.find.ensures ∙ ap (found_of (state_in c.args.words.now)) c.named.ensures)) _ _ c.load-before.ensures (c.queue.ensures ∙ rw (c.hear-heard.ensures, c.counted.ensures)) _ _ _ c.channel.ensures

pub returns-in_err-index : goal.returns-in_err-index
returns-in_err-index c = let p = err_from_is_err_and c.from_residual.result c.from_residual.ensures.1 in rw (p.1, p.2) (data_unfound _ _ _ _ c.requires _ (sym c.in_err-index.was ∙ c.find.ensures ∙ ap (found_of (state_in c.args.words.now)) c.named.ensures))
