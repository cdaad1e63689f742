-- Document 02, §12: "whether every data message (here always the IPS end's) carried the sequence after its packet and stayed within the window last seen".
use Rattle.std.specs.Prelude.{◌≡◌, ◌+◌, ◌-◌, ◌%◌, ◌^◌, Bool, true, false, ◌&&◌, pos, ◌-ℤ◌, ◌≤ℤ◌, ◌==◌, Option, Some, None}
use Rattle.quantity.specs.declared.count.FlowSequence.{FlowSequence}
use Rattle.quantity.specs.declared.count.FlowWindow.{FlowWindow}
use Rattle.quantity.specs.declared.count.ByteCount.{ByteCount}
use Rattle.quantity.specs.Distance.{low_of, distance_of, fits_of, advance_of}
use Rattle.meaning.specs.declared.message.Window.{Window}
use Rattle.conduct_rules.specs.declared.Flow.{Flow}

-- what a radio control message makes of a channel: free without a Flow Window option, no window by one without the field, else the window
abbrev pub flow_of : Option Window → Flow
flow_of None = Flow.Free
flow_of (Some Window.Empty) = Flow.NoWindow
flow_of (Some (Window.Given window)) = Flow.InForce window

-- ---- what the papers say

-- "each packet counted and fitting from the last sequence carried (for the first, its own less its bytes)"
pub data Base : (last : Option FlowSequence) (own : FlowSequence) (bytes : ByteCount) (base : FlowSequence) → Type 0 where
  carried_last : {own base : FlowSequence} {bytes : ByteCount} → Base (Some base) own bytes base
  own_less : {own base : FlowSequence} {bytes : ByteCount} → base.0 ≡ low_of (pos own.0 -ℤ pos bytes.0) → Base None own bytes base

-- "A data message before any radio control message, while there is no window, or without a Flow Sequence while one is in force is a breach; on a free channel only a
-- Flow Sequence is." Under a window it "carried the sequence after its packet and stayed within the window": n bytes are at most the distance.
pub data Obeys : Flow → (last : Option FlowSequence) (bytes : ByteCount) (carried : Option FlowSequence) → Type 0 where
  free : {last : Option FlowSequence} {bytes : ByteCount} → Obeys Flow.Free last bytes None
  within : {window : FlowWindow} {last : Option FlowSequence} {bytes : ByteCount} {own base : FlowSequence} → Base last own bytes base
      → own.0 ≡ (base.0 + bytes.0) % 2 ^ 32 → pos bytes.0 ≤ℤ distance_of base window
      → Obeys (Flow.InForce window) last bytes (Some own)

-- ---- the same as it is computed (`obeys_is`)

-- a sequence less the bytes, modulo 2^32
abbrev pub less_of : FlowSequence → ByteCount → FlowSequence
less_of own bytes = record { 0 = (own.0 + (2 ^ 32 - bytes.0 % 2 ^ 32)) % 2 ^ 32 }

abbrev pub base_for : (last : Option FlowSequence) (own : FlowSequence) → ByteCount → FlowSequence
base_for None own bytes = less_of own bytes
base_for (Some base) own bytes = base

unfoldable pub obeys_within : FlowWindow → (base : FlowSequence) → ByteCount → (own : FlowSequence) → Bool
obeys_within window base bytes own = own.0 == (advance_of base bytes).0 && fits_of base window bytes

abbrev pub obeys_free : (carried : Option FlowSequence) → Bool
obeys_free None = true
obeys_free (Some own) = false

abbrev pub obeys_in_force : FlowWindow → (last : Option FlowSequence) → ByteCount → (carried : Option FlowSequence) → Bool
obeys_in_force window last bytes None = false
obeys_in_force window last bytes (Some own) = obeys_within window (base_for last own bytes) bytes own

abbrev pub obeys_of : Flow → (last : Option FlowSequence) → ByteCount → (carried : Option FlowSequence) → Bool
obeys_of Flow.Unseen last bytes carried = false
obeys_of Flow.Free last bytes carried = obeys_free carried
obeys_of Flow.NoWindow last bytes carried = false
obeys_of (Flow.InForce window) last bytes carried = obeys_in_force window last bytes carried
