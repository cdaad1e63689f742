-- `shown::show` meets its contract. Assumes nothing.
use mathlib.Core.Path.{sym, ◌∙◌}
use Rattle.std.proofs.lemmas.Result.{err_from_is_err_and}
use Rattle.radio_end.proofs.Showing.{show_placed, show_channel, show_refused}
use Rattle.radio_end.proofs.shown.show.Goals as goal

pub load-requires : goal.load-requires
load-requires c = show_placed _ c.args.id _ (sym c.in_ok-index.was ∙ c.find.ensures)

pub returns-in_err-index : goal.returns-in_err-index
returns-in_err-index c = let p = err_from_is_err_and c.from_residual.result c.from_residual.ensures.1 in rw (p.1, p.2) (show_refused _ _ _ (sym c.in_err-index.was ∙ c.find.ensures))

pub returns : goal.returns
returns c = show_channel _ _ _ (sym c.in_ok-index.was ∙ c.find.ensures) _ c.load.ensures
