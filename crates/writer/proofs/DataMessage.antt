-- A data message, option by option. Assumes nothing.
use Prim.Native.Nat.{ℕ, ◌+◌, ◌≤◌}
use mathlib.Core.Path.{◌≡◌}
use mathlib.Core.List.{List}
use native.Mathlib.Omega.{arith}
use lib.ListN.{length, set}
use Rattle.wire.specs.Options.{Options, done, option, bytes}
use Rattle.meaning.specs.Kinds.{PACKET-DATA}
use Rattle.meaning.specs.declared.message.Data.{Data}
use Rattle.write_option.specs.Parts.{datalink_then, counted_then, channel_then, expiration_then}
use Rattle.write_option.specs.Sizes.{datalink_size, counted_size, channel_size, expiration_size}
use Rattle.write_option.proofs.Laying.{part_length, Standing, standing_header}
use Rattle.write_option.proofs.Parts.{datalink_part_lem, counted_part_lem, channel_part_lem, expiration_part_lem, packet_part}
use Rattle.writer.specs.Written.{data_options, data_written, DATA-HEADER}

-- what follows each option
abbrev pub behind_packet : Data → List ℕ → Options
behind_packet m packet = done

abbrev pub behind_expiration : Data → List ℕ → Options
behind_expiration m packet = option PACKET-DATA packet (behind_packet m packet)

abbrev pub behind_channel : Data → List ℕ → Options
behind_channel m packet = expiration_then m.expiration (behind_expiration m packet)

abbrev pub behind_counted : Data → List ℕ → Options
behind_counted m packet = channel_then m.channel (behind_channel m packet)

abbrev pub behind_datalink : Data → List ℕ → Options
behind_datalink m packet = counted_then m.sequence (behind_counted m packet)

pub data_length : (m : Data) (packet : List ℕ)
    → length (data_written m packet) ≡ 1 + datalink_size m.datalink + counted_size m.sequence + channel_size m.channel + expiration_size m.expiration
    + (3 + length packet)
unfolding data_written data_options bytes
data_length m packet =
    omega (
      arith,
      part_length (datalink_part_lem m.datalink) (behind_datalink m packet),
      part_length (counted_part_lem m.sequence) (behind_counted m packet),
      part_length (channel_part_lem m.channel) (behind_channel m packet),
      part_length (expiration_part_lem m.expiration) (behind_expiration m packet),
      part_length (packet_part packet) (behind_packet m packet),
    )

pub data_header : (m : Data) (packet entry : List ℕ) → length (data_written m packet) ≤ length entry
    → Standing (data_written m packet) entry 1 (datalink_then m.datalink (behind_datalink m packet)) (set entry 0 DATA-HEADER)
unfolding data_written data_options
data_header m packet entry h = standing_header DATA-HEADER (data_options m packet) entry h
