-- `words::beyond` meets its contract: what `tail` gives of the rest without its space. Assumes nothing.
use mathlib.Core.Path.{ap, ◌∙◌}
use Rattle.text.specs.Words.{tail_of}
use Rattle.text.proofs.words.beyond.Goals as goal

pub returns : goal.returns
returns c = c.tail.ensures ∙ ap tail_of c.stripped.ensures
