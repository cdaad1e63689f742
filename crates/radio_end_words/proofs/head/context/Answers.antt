-- `head::context` meets its contract. Assumes nothing.
use mathlib.Core.Path.{ap, ◌∙◌}
use native.Mathlib.Omega.{arith}
use Rattle.radio_end_state.specs.State.{State}
use Rattle.radio_end_words.proofs.Placing.{fit_length, fit_says}
use Rattle.radio_end_words.proofs.head.context.Goals as goal

pub context_said-requires : goal.context_said-requires
context_said-requires c = omega (arith, fit_length _ c.requires)

pub returns : goal.returns
returns c = c.context_said.ensures ∙ ap (λ (s : State). s.context) (fit_says _ c.requires)
