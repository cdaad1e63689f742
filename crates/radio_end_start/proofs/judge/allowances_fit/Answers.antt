-- `judge::allowances_fit` meets its contract. Assumes nothing.
use mathlib.Core.Path.{refl}
use Rattle.std.proofs.Common.{rules}
use Rattle.lent_messages.proofs.Ranges.{all_from_Range}
use Rattle.radio_end_start.proofs.Allowing.{allowed_in, all_allowed, one_large}
use Rattle.radio_end_start.proofs.judge.allowances_fit.Goals as goal

pub returns : goal.returns
returns c = all_from_Range (allowed_in c.args.configuration.now) c.args.count _ _ c.all.result _ c.all.ensures.ran refl (λ x a q k. search rules) (all_allowed _ _) (one_large _ _)
