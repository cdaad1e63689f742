-- `blank` meets its contract by computing. Assumes nothing.
use mathlib.Core.Path.{refl}
use Rattle.facts.specs.Tables.{tabulate}
use Rattle.read_option.specs.Stated.{control_stated}
use Rattle.read_control.specs.Message.{blank_control}
use Rattle.read_control.proofs.blank.Goals as goal

pub returns : goal.returns
unfolding blank_control control_stated tabulate
returns c = refl
