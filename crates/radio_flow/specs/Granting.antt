-- Document 02, §3, for one channel, as the code counts: in words of 32 bits.
use Rattle.std.specs.Prelude.{ℕ, ◌+◌, ◌-◌, ◌%◌, ◌^◌, min, Bool, true, false, cond, eqb, pos, Option, Some, None}
use Rattle.std.specs.Int.Signed.{le_z}
use Rattle.quantity.specs.declared.count.FlowSequence.{FlowSequence}
use Rattle.quantity.specs.declared.count.FlowWindow.{FlowWindow}
use Rattle.quantity.specs.declared.count.ByteCount.{ByteCount}
use Rattle.quantity.specs.Limits.{MOST-ALLOWANCE}
use Rattle.quantity.specs.Distance.{distance_of}
use Rattle.meaning.specs.declared.message.Window.{Window}

-- ---- "It keeps the highest Flow Sequence heard for each channel by distance"

-- a sequence in a window's place: so the distance from one sequence to another is had
abbrev pub place_of : FlowSequence → FlowWindow
place_of sequence = record { 0 = sequence.0 }

-- its distance from the highest is above 0
unfoldable pub is_ahead : FlowSequence → FlowSequence → Bool
is_ahead highest sequence = le_z (pos 1) (distance_of highest (place_of sequence))

abbrev pub later_of : FlowSequence → FlowSequence → Option FlowSequence
later_of highest sequence = cond (is_ahead highest sequence) (Some sequence) (Some highest)

-- the first that is heard is the highest
abbrev pub heard_of : Option FlowSequence → FlowSequence → Option FlowSequence
heard_of None sequence = Some sequence
heard_of (Some highest) sequence = later_of highest sequence

-- what a message states of a channel: a Flow Sequence of a plain channel is passed over
abbrev pub heard_in : Option FlowSequence → Option FlowSequence → Option FlowSequence
heard_in highest None = highest
heard_in highest (Some sequence) = heard_of highest sequence

unfoldable pub hearing : Bool → Option FlowSequence → Option FlowSequence → Option FlowSequence
hearing controlled highest stated = cond controlled (heard_in highest stated) highest

-- ---- "The window is the highest sequence plus the larger of 0 and watermark plus throughput per period minus bytes queued, cut at 2^31 - 1."

-- a difference of natural numbers is 0 where it would be below
unfoldable pub allowance_of : (watermark throughput queued : ByteCount) → ByteCount
allowance_of watermark throughput queued = record { 0 = min MOST-ALLOWANCE ((watermark.0 + throughput.0) - queued.0) }

abbrev pub window_from : FlowSequence → ByteCount → FlowWindow
window_from highest allowance = record { 0 = (highest.0 + allowance.0) % 2 ^ 32 }

-- "Until a sequence has been heard it sends Flow Window without the field."
abbrev pub granted : Option FlowSequence → ByteCount → Option Window
granted None allowance = Some Window.Empty
granted (Some highest) allowance = Some (Window.Given (window_from highest allowance))

-- a plain channel has no Flow Window
unfoldable pub window_of : Bool → Option FlowSequence → ByteCount → Option Window
window_of controlled highest allowance = cond controlled (granted highest allowance) None

-- ---- bytes queued are held at the largest number of 64 bits
abbrev pub LARGEST-COUNT : ℕ
LARGEST-COUNT = 18446744073709551615

unfoldable pub queued_on : ByteCount → ByteCount → ByteCount
queued_on queued bytes = record { 0 = min LARGEST-COUNT (queued.0 + bytes.0) }

-- ---- whether a window changes
abbrev pub same_window : Option Window → Option Window → Bool
same_window None None = true
same_window None (Some Window.Empty) = false
same_window None (Some (Window.Given second)) = false
same_window (Some Window.Empty) None = false
same_window (Some Window.Empty) (Some Window.Empty) = true
same_window (Some Window.Empty) (Some (Window.Given second)) = false
same_window (Some (Window.Given first)) None = false
same_window (Some (Window.Given first)) (Some Window.Empty) = false
same_window (Some (Window.Given first)) (Some (Window.Given second)) = eqb first.0 second.0
