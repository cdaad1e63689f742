-- `telling::tell_status` meets its contract. Assumes nothing.
use mathlib.Core.Path.{sym, ap, ◌∙◌}
use native.Mathlib.Omega.{arith}
use Rattle.std.proofs.lemmas.Result.{err_from_is_err_and}
use Rattle.radio_end_state.specs.declared.channel.Channel.{Channel}
use Rattle.radio_end_state.specs.Channel.{with_status}
use Rattle.radio_end_telling.proofs.Told.{status_unfound, status_high, status_done}
use Rattle.radio_end_telling.proofs.Settling.{found_at, found_placed, found_settles}
use Rattle.radio_end_telling.proofs.telling.tell_status.Goals as goal

pub returns-in_err-index : goal.returns-in_err-index
returns-in_err-index c = let p = err_from_is_err_and c.from_residual.result c.from_residual.ensures.1 in rw (p.1, p.2) (status_unfound _ _ _ _ _ (sym c.in_err-index.was ∙ c.find.ensures))

pub returns-then-value-gt-HIGHEST_STATUS : goal.returns-then-value-gt-HIGHEST_STATUS
returns-then-value-gt-HIGHEST_STATUS c = status_high _ _ _ _ _ (found_at _ _ _ (sym c.in_ok-index.was ∙ c.find.ensures)) c.if-value-gt-HIGHEST_STATUS.true _ c.refused.ensures

pub load-before-requires : goal.load-before-requires
load-before-requires c = found_placed _ c.args.id _ (found_at _ _ _ (sym c.in_ok-index.was ∙ c.find.ensures))

pub channel-requires : goal.channel-requires
unfolding with_status
channel-requires c = found_settles _ c.args.id _ (found_at _ _ _ (sym c.in_ok-index.was ∙ c.find.ensures)) _ _ c.load-before.ensures (ap (λ (x : Channel). x.setting.id) c.with_status.ensures) (rw c.with_status.ensures (omega (arith, c.if-value-gt-HIGHEST_STATUS.false)))

pub returns : goal.returns
returns c = status_done _ _ _ _ _ (found_at _ _ _ (sym c.in_ok-index.was ∙ c.find.ensures)) c.if-value-gt-HIGHEST_STATUS.false _ _ c.load-before.ensures c.with_status.ensures _ _ _ c.channel.ensures
