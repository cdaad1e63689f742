-- `head::instance` meets its contract. Assumes nothing.
use mathlib.Core.Path.{ap, ◌∙◌}
use native.Mathlib.Omega.{arith}
use Rattle.radio_end_state.specs.State.{State}
use Rattle.radio_end_words.proofs.Placing.{fit_length, fit_says}
use Rattle.radio_end_words.proofs.head.instance.Goals as goal

pub instance_said-requires : goal.instance_said-requires
instance_said-requires c = omega (arith, fit_length _ c.requires)

pub returns : goal.returns
returns c = c.instance_said.ensures ∙ ap (λ (s : State). s.instance) (fit_says _ c.requires)
