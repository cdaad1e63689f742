-- `survey::names_fit` meets its contract. Assumes nothing.
use mathlib.Core.Path.{sym, ◌∙◌}
use Rattle.ips_state.specs.Limits.{names_fit}
use Rattle.ips_words_survey.proofs.survey.names_fit.Goals as goal

pub returns-then-instance : goal.returns-then-instance
unfolding names_fit
returns-then-instance c = rw (← c.instance-instance.ensures, ← c.context-context.ensures, sym c.instance.ensures ∙ c.if-instance.true) c.context.ensures

pub returns-else-instance : goal.returns-else-instance
unfolding names_fit
returns-else-instance c = rw (← c.instance-instance.ensures, sym c.instance.ensures ∙ c.if-instance.false) c.if-instance.false
