-- `calls::nespovarda_words` meets its contract. Assumes nothing.
use mathlib.Core.Path.{ap, ◌∙◌}
use Rattle.endpoint.specs.Shown.{words_needed}
use Rattle.nespovarda.proofs.calls.nespovarda_words.Goals as goal

pub returns : goal.returns
returns c = c.wide.ensures ∙ c.words_for.ensures ∙ ap words_needed c.narrow.ensures
