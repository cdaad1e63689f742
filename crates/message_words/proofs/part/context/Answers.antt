-- `part::context` meets its contract: the label, and the bytes behind it; or nothing. Assumes nothing.
use mathlib.Core.Path.{◌∙◌}
use Rattle.message_words.proofs.Saying.{part_size, says_none, says_one, says_spelt, says_then}
use Rattle.message_words.proofs.part.context.Goals as goal

pub returns-in_default : goal.returns-in_default
returns-in_default c = rw c.in_default.is (says_none _ _)

pub returns : goal.returns
returns c =
    rw c.in-Some.is
    (says_then (says_one c.put-behind.ensures) (says_spelt _ (part_size _ _ _ c.min-n.ensures ∙ c.min-n.ensures) c.spelt.ensures))
