-- The channels so far are heard.
use mathlib.Core.Path.{◌≡◌}
use Rattle.conduct.specs.Words.{heard_up_to}
use Rattle.conduct.proofs.hear.Given as goal

abbrev pub invariant-loop-i : goal.invariant-loop-i
invariant-loop-i l = l.words ≡ heard_up_to l.i l.cell-items l.initial.words
