-- `judge::walk` meets its contract. Assumes nothing.
use mathlib.Core.Path.{refl}
use Rattle.std.proofs.Common.{rules}
use Rattle.lent_messages.proofs.Ranges.{all_from_Range}
use Rattle.radio_end_start.proofs.Walking.{said_in, all_said, one_unsaid, walked_is, unwalked}
use Rattle.radio_end_start.proofs.judge.walk.Goals as goal

pub returns-then-all : goal.returns-then-all
returns-then-all c = walked_is c.args.configuration.now c.args.count _ _ (all_from_Range (said_in c.args.configuration.now) c.args.count _ _ c.all.result _ c.all.ensures.ran refl (λ x a q k. search rules) (all_said _ _) (one_unsaid _ _)) c.ids_fit.ensures c.if-all.true

pub returns-else-all : goal.returns-else-all
returns-else-all c = unwalked c.args.configuration.now c.args.count _ (all_from_Range (said_in c.args.configuration.now) c.args.count _ _ c.all.result _ c.all.ensures.ran refl (λ x a q k. search rules) (all_said _ _) (one_unsaid _ _)) c.if-all.false
