-- `words::word` meets its contract: what `head` gives of the rest without its space. Assumes nothing.
use mathlib.Core.Path.{ap, ◌∙◌}
use Rattle.text.specs.Words.{head_of}
use Rattle.text.proofs.words.word.Goals as goal

pub returns : goal.returns
returns c = c.head.ensures ∙ ap head_of c.stripped.ensures
