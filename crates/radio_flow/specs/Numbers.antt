-- Document 02, §3, in numbers that never wrap: the highest number heard, and the number that a window stands for.
use Rattle.std.specs.Prelude.{ℕ, ◌+◌, ◌≤◌, max, ◌≡◌, List, [], ◌∷◌, ℤ, pos, negsuc, Option}
use Rattle.quantity.specs.declared.count.FlowSequence.{FlowSequence}
use Rattle.quantity.specs.Window.{standing_at}
use Rattle.radio_flow.specs.Granting.{place_of, heard_of}

-- the highest word after sequences were heard, one after another
abbrev pub heard_all : Option FlowSequence → List FlowSequence → Option FlowSequence
heard_all highest [] = highest
heard_all highest (sequence ∷ sequences) = heard_all (heard_of highest sequence) sequences

-- "each word standing for the one number from 2^31 below to 2^31 - 1 above the highest then" (`standing_stands`, `Stands-one` of the quantities)
abbrev pub number_of : ℕ → FlowSequence → ℤ
number_of highest sequence = standing_at highest (place_of sequence)

-- the larger of the highest number and another
abbrev pub larger : ℕ → ℤ → ℕ
larger highest (pos number) = max highest number
larger highest (negsuc below) = highest

-- the highest number after sequences were heard
abbrev pub number_after : ℕ → List FlowSequence → ℕ
number_after highest [] = highest
number_after highest (sequence ∷ sequences) = number_after (larger highest (number_of highest sequence)) sequences

-- the numbers that they stood for when they were heard
abbrev pub numbers_heard : ℕ → List FlowSequence → List ℤ
numbers_heard highest [] = []
numbers_heard highest (sequence ∷ sequences) = number_of highest sequence ∷ numbers_heard (larger highest (number_of highest sequence)) sequences

-- exactly the larger of 0 and watermark + throughput - queued, cut at 2^31 - 1: in each case
pub record AllowanceIs (watermark throughput queued allowance : ℕ) : Type 0 where
  pub shut : watermark + throughput ≤ queued → allowance ≡ 0
  pub between : queued ≤ watermark + throughput → watermark + throughput ≤ queued + 2147483647 → queued + allowance ≡ watermark + throughput
  pub cut : queued + 2147483647 ≤ watermark + throughput → allowance ≡ 2147483647
  pub most : allowance ≤ 2147483647
