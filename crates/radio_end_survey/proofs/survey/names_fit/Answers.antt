-- `survey::names_fit` meets its contract. Assumes nothing.
use mathlib.Core.Path.{sym, ◌∙◌}
use Rattle.radio_end_state.specs.Limits.{names_fit}
use Rattle.radio_end_survey.proofs.survey.names_fit.Goals as goal

pub returns-then-instance : goal.returns-then-instance
unfolding names_fit
returns-then-instance c = rw (← c.instance_said-instance.ensures, ← c.context_said-context.ensures, sym c.instance.ensures ∙ c.if-instance.true) c.context.ensures

pub returns-else-instance : goal.returns-else-instance
unfolding names_fit
returns-else-instance c = rw (← c.instance_said-instance.ensures, sym c.instance.ensures ∙ c.if-instance.false) c.if-instance.false
