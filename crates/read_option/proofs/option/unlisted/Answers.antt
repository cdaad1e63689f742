-- `option::unlisted` meets its contract. Assumes nothing.
use mathlib.Core.Path.{sym, ◌∙◌}
use Rattle.read_option.proofs.option.unlisted.Goals as goal

pub returns-then-is_known : goal.returns-then-is_known
returns-then-is_known c = rw (sym c.is_known.ensures ∙ c.if-is_known.true)

pub returns : goal.returns
returns c = rw (sym c.is_known.ensures ∙ c.if-is_known.false)
