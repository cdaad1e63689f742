-- Demand 3 and document 01, "Counting", in numbers that never wrap.
use Rattle.std.specs.Prelude.{◌≡◌, ℕ, ◌+◌, ◌%◌, ◌^◌, Bool, true, ◌&&◌, List, [], ◌∷◌, ℤ, pos, ◌+ℤ◌, ◌≤ℤ◌, ◌<ℤ◌}
use Rattle.quantity.specs.declared.count.FlowSequence.{FlowSequence}
use Rattle.quantity.specs.declared.count.FlowWindow.{FlowWindow}
use Rattle.quantity.specs.declared.count.ByteCount.{ByteCount}
use Rattle.quantity.specs.Distance.{low_of, distance_of, fits_of, advance_of}

-- the sequence at a count that never wraps: its low 32 bits
abbrev pub sequence_at : ℕ → FlowSequence
sequence_at count = record { 0 = count % 2 ^ 32 }

-- "A window stands for the one number with those low 32 bits that lies from 2^31 below the bytes counted so far to 2^31 - 1 above."
pub record Stands (count : ℕ) (window : FlowWindow) (number : ℤ) : Type 0 where
  pub least : pos count ≤ℤ (number +ℤ pos (2 ^ 31))
  pub most : number <ℤ pos (count + 2 ^ 31)
  pub bits : low_of number ≡ window.0 % 2 ^ 32

-- the number, as it is computed: the count plus the distance (`standing_stands`: it is the one of `Stands`)
unfoldable pub standing_at : ℕ → FlowWindow → ℤ
standing_at count window = pos count +ℤ distance_of (sequence_at count) window

-- the sequence after packets were sent under a window
abbrev pub sequence_after : FlowSequence → List ByteCount → FlowSequence
sequence_after sequence [] = sequence
sequence_after sequence (n ∷ ns) = sequence_after (advance_of sequence n) ns

-- the count after them
abbrev pub count_after : ℕ → List ByteCount → ℕ
count_after count [] = count
count_after count (n ∷ ns) = count_after (count + n.0) ns

-- each of them fitted when it was sent
abbrev pub each_fits : FlowSequence → FlowWindow → List ByteCount → Bool
each_fits sequence window [] = true
each_fits sequence window (n ∷ ns) = fits_of sequence window n && each_fits (advance_of sequence n) window ns
