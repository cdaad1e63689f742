-- A control message, part by part. Assumes nothing.
use Prim.Native.Nat.{ℕ, ◌+◌, ◌≤◌}
use mathlib.Core.Path.{◌≡◌}
use mathlib.Core.List.{List}
use native.Mathlib.Omega.{arith}
use lib.ListN.{length, set}
use Rattle.wire.specs.Options.{Options, done, bytes}
use Rattle.meaning.specs.declared.message.Control.{Control}
use Rattle.write_option.specs.Parts.{datalink_then, instance_then, context_then, statuses_then, sequences_then, windows_then}
use Rattle.write_option.specs.Sizes.{datalink_size, instance_size, context_size, statuses_size, sequences_size, windows_size}
use Rattle.write_option.proofs.Laying.{part_length, Standing, standing_header}
use Rattle.write_option.proofs.Parts.{datalink_part_lem, instance_part_lem, context_part_lem}
use Rattle.write_option.proofs.Tables.{statuses_part, sequences_part, windows_part}
use Rattle.writer.specs.Written.{control_options, control_written, CONTROL-HEADER}

-- what follows each part
abbrev pub behind_windows : Control → Options
behind_windows m = done

abbrev pub behind_sequences : Control → Options
behind_sequences m = windows_then m.windows (behind_windows m)

abbrev pub behind_statuses : Control → Options
behind_statuses m = sequences_then m.sequences (behind_sequences m)

abbrev pub behind_context : Control → Options
behind_context m = statuses_then m.statuses (behind_statuses m)

abbrev pub behind_instance : Control → Options
behind_instance m = context_then m.context (behind_context m)

abbrev pub behind_datalink : Control → Options
behind_datalink m = instance_then m.instance (behind_instance m)

pub control_length : (m : Control)
    → length (control_written m) ≡ 1 + datalink_size m.datalink + instance_size m.instance + context_size m.context
    + (statuses_size m.statuses + (sequences_size m.sequences + windows_size m.windows))
unfolding control_written control_options bytes
control_length m =
    omega (
      arith,
      part_length (datalink_part_lem m.datalink) (behind_datalink m),
      part_length (instance_part_lem m.instance) (behind_instance m),
      part_length (context_part_lem m.context) (behind_context m),
      part_length (statuses_part m.statuses) (behind_statuses m),
      part_length (sequences_part m.sequences) (behind_sequences m),
      part_length (windows_part m.windows) (behind_windows m),
    )

-- the header stands, and every part is left
pub control_header : (m : Control) (entry : List ℕ) → length (control_written m) ≤ length entry
    → Standing (control_written m) entry 1 (datalink_then m.datalink (behind_datalink m)) (set entry 0 CONTROL-HEADER)
unfolding control_written control_options
control_header m entry h = standing_header CONTROL-HEADER (control_options m) entry h
