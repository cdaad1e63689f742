-- `lacks_status` meets its contract. Assumes nothing.
use mathlib.Core.Path.{sym}
use Rattle.note_control.proofs.Told.{unstated_code}
use Rattle.note_control.proofs.lacks_status.Goals as goal

pub returns-in-Radio : goal.returns-in-Radio
returns-in-Radio c = rw c.in-Radio.is (sym (unstated_code c.args.code))
