-- `blank` states nothing. Assumes nothing.
use mathlib.Core.Path.{refl}
use Rattle.read_option.specs.Stated.{data_stated}
use Rattle.read_data.specs.Message.{blank_data}
use Rattle.read_data.proofs.blank.Goals as goal

pub returns : goal.returns
unfolding blank_data data_stated
returns c = refl
