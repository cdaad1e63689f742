-- `packet` meets its contract: the part up to the end. Assumes nothing.
use native.Mathlib.Omega.{arith}
use mathlib.Core.Path.{◌∙◌}
use Rattle.ethernet.proofs.Parts.{slice_long}
use Rattle.ethernet.proofs.packet.Goals as goal

pub returns : goal.returns
returns c = c.part.ensures ∙ slice_long _ _ _ (omega arith)
