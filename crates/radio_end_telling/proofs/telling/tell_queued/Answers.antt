-- `telling::tell_queued` meets its contract. Assumes nothing.
use mathlib.Core.Path.{sym, ap, ◌∙◌}
use Rattle.std.proofs.lemmas.Result.{err_from_is_err_and}
use Rattle.radio_end_state.specs.declared.channel.Channel.{Channel}
use Rattle.radio_end_state.specs.Channel.{with_queued}
use Rattle.radio_end_telling.proofs.Told.{queued_unfound, queued_done}
use Rattle.radio_end_telling.proofs.Settling.{found_at, found_placed, found_settles, found_low}
use Rattle.radio_end_telling.proofs.telling.tell_queued.Goals as goal

pub returns-in_err-index : goal.returns-in_err-index
returns-in_err-index c = let p = err_from_is_err_and c.from_residual.result c.from_residual.ensures.1 in rw (p.1, p.2) (queued_unfound _ _ _ _ _ (sym c.in_err-index.was ∙ c.find.ensures))

pub load-before-requires : goal.load-before-requires
load-before-requires c = found_placed _ c.args.id _ (found_at _ _ _ (sym c.in_ok-index.was ∙ c.find.ensures))

pub channel-requires : goal.channel-requires
unfolding with_queued
channel-requires c = found_settles _ c.args.id _ (found_at _ _ _ (sym c.in_ok-index.was ∙ c.find.ensures)) _ _ c.load-before.ensures (ap (λ (x : Channel). x.setting.id) c.with_queued.ensures) (rw c.with_queued.ensures (found_low _ c.args.id _ (found_at _ _ _ (sym c.in_ok-index.was ∙ c.find.ensures)) _ c.load-before.ensures))

pub returns : goal.returns
returns c = queued_done _ _ _ _ _ (found_at _ _ _ (sym c.in_ok-index.was ∙ c.find.ensures)) _ _ c.load-before.ensures c.with_queued.ensures _ _ _ c.channel.ensures
