-- What a caller of `read_with_packet` knows of its answer. Assumes nothing.
use Prim.Native.Nat.{ℕ, ◌-◌, ◌≤◌}
use mathlib.Core.Path.{◌≡◌, refl}
use mathlib.Core.List.{List}
use lib.ListN.{length, length-drop}
use Rattle.quantity.specs.declared.count.DatalinkId.{DatalinkId}
use Rattle.meaning.specs.declared.message.End.{End}
use Rattle.read_data.proofs.Carried.{start_within, start_none}
use Rattle.reader.specs.Readings.{Verdict, CarriedReading, packet_of, carried_reading, Carries, read_data, read_carried}

module _ {r : CarriedReading} (end : End) (id : DatalinkId) (s : List ℕ) (e : r ≡ read_carried end id s) where
  -- the reading is that of `read`
  pub carried_reading_lem : r.reading ≡ read_data end id s
  unfolding read_carried carried_reading
  carried_reading_lem = rw e refl

  -- the packet begins within the datagram
  pub carried_within : r.start ≤ length s
  unfolding read_carried
  carried_within = rw e (start_within (read_data end id s) s)

  -- at its end, if the message isn't accepted: nothing is carried
  pub carried_none : (r.reading.verdict ≡ Verdict.Accepted → ⊥) → r.start ≡ length s
  unfolding read_carried
  carried_none unaccepted = rw e (start_none (read_data end id s) s (λ a. unaccepted (rw carried_reading_lem a)))

-- and of an accepted message it is the rest of the datagram
pub carried_size : (r : CarriedReading) (s : List ℕ) → Carries r s → r.reading.verdict ≡ Verdict.Accepted → length (packet_of s) ≡ length s - r.start
carried_size r s carries accepted = rw (← carries accepted) (length-drop r.start s)
