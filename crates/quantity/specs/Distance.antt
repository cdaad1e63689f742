-- Document 01, "Counting".
use Rattle.std.specs.Prelude.{◌≡◌, ℕ, ◌+◌, ◌-◌, ◌%◌, ◌^◌, Bool, cond, ℤ, pos, negsuc, ◌-ℤ◌, neg_ℤ, ◌≤ℤ◌, ◌<ℤ◌, int_le, nat_lt}
use Rattle.quantity.specs.declared.count.FlowSequence.{FlowSequence}
use Rattle.quantity.specs.declared.count.FlowWindow.{FlowWindow}
use Rattle.quantity.specs.declared.count.ByteCount.{ByteCount}

-- a whole number modulo 2^32
abbrev pub low_of : ℤ → ℕ
low_of (pos n) = n % 2 ^ 32
low_of (negsuc n) = (2 ^ 32 - 1) - n % 2 ^ 32

-- "Distance from sequence to window: the one number from -2^31 to 2^31 - 1 equal to window minus sequence modulo 2^32."
pub record IsDistance (sequence : FlowSequence) (window : FlowWindow) (d : ℤ) : Type 0 where
  pub least : neg_ℤ (pos (2 ^ 31)) ≤ℤ d
  pub most : d <ℤ pos (2 ^ 31)
  pub same : low_of d ≡ low_of (pos window.0 -ℤ pos sequence.0)

-- window minus sequence modulo 2^32, as a word of 32 bits
abbrev pub ahead_of : FlowSequence → FlowWindow → ℕ
ahead_of sequence window = (window.0 + (2 ^ 32 - sequence.0)) % 2 ^ 32

-- the number from -2^31 to 2^31 - 1 that a word of 32 bits stands for
abbrev pub signed_of : ℕ → ℤ
signed_of word = cond (nat_lt word (2 ^ 31)) (pos word) (pos word -ℤ pos (2 ^ 32))

-- the distance, as it is computed (`distance_is`: it is the one of `IsDistance`)
unfoldable pub distance_of : FlowSequence → FlowWindow → ℤ
distance_of sequence window = signed_of (ahead_of sequence window)

-- "A packet of n bytes fits when n is at most the distance."
unfoldable pub fits_of : FlowSequence → FlowWindow → ByteCount → Bool
fits_of sequence window bytes = int_le (pos bytes.0) (distance_of sequence window)

-- "Sending under a window adds n to the sequence modulo 2^32"
abbrev pub advance_of : FlowSequence → ByteCount → FlowSequence
advance_of sequence bytes = record { 0 = (sequence.0 + bytes.0) % 2 ^ 32 }
