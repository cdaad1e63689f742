-- `control::may_write` meets its contract: each test in turn, the first that fails deciding. Assumes nothing.
use Rattle.std.proofs.Common.{arith}
use Rattle.std.proofs.lemmas.Grind.{common_steps}
use Rattle.writable.specs.Allowed.{control_allowed}
use Rattle.writable.proofs.Cells.{statuses_all, sequences_all, windows_all}
use Rattle.writable.proofs.control.may_write.Goals as goal

pub returns-then-sequences : goal.returns-then-sequences
unfolding control_allowed
returns-then-sequences c =
    let m = c.args.message in
    grind (arith, common_steps, statuses_all c.args.end m.statuses, sequences_all c.args.end m.sequences, windows_all c.args.end m.windows)

pub returns-else-sequences : goal.returns-else-sequences
unfolding control_allowed
returns-else-sequences c =
    let m = c.args.message in
    grind (arith, common_steps, statuses_all c.args.end m.statuses, sequences_all c.args.end m.sequences, windows_all c.args.end m.windows)
