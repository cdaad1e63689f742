-- Document 01, "Radio control message accepted", in literal numbers: which words no datagram from the radio changes, and the words of the kept Context;
-- the same of the pacer asked, and what a silence writes.
use Rattle.std.specs.Prelude.{ℕ, ◌+◌, ◌*◌, ◌<◌, List, ◌≡◌, length, get_or, Option, Some, None}
use Rattle.meaning.specs.declared.message.ContextBytes.{ContextBytes}
use Rattle.endpoint.specs.Lent.{Lent}

-- of each channel its setting, and all behind the four words of status and flow state: sequence, latest time, and what waits; every lent byte
pub record ChannelsLeft (l l' : Lent) : Type 0 where
  pub long : length l'.words ≡ length l.words
  pub setting : (i j : ℕ) → i < get_or l.words 1 0 → j < 3 → get_or l'.words (14 + 74 * i + j) 0 ≡ get_or l.words (14 + 74 * i + j) 0
  pub rest : (i j : ℕ) → i < get_or l.words 1 0 → 6 < j → j < 74 → get_or l'.words (14 + 74 * i + j) 0 ≡ get_or l.words (14 + 74 * i + j) 0
  pub memory : l'.memory ≡ l.memory

-- a datagram from the radio: besides, Datalink ID and count, HelloTime and silence limit, the last query due, and the setting of the statuses 8 to 15
pub record RadioLeaves (l l' : Lent) : Type 0 where
  pub channels : ChannelsLeft l l'
  pub head : (k : ℕ) → k < 2 → get_or l'.words k 0 ≡ get_or l.words k 0
  pub waits : (k : ℕ) → 7 < k → k < 10 → get_or l'.words k 0 ≡ get_or l.words k 0
  pub due : get_or l'.words 11 0 ≡ get_or l.words 11 0
  pub codes : get_or l'.words 13 0 ≡ get_or l.words 13 0

-- the pacer asked: besides, all of the endpoint's own words but its clock and the last query due
pub record PaceLeaves (l l' : Lent) : Type 0 where
  pub channels : ChannelsLeft l l'
  pub head : (k : ℕ) → k < 10 → get_or l'.words k 0 ≡ get_or l.words k 0
  pub heard : get_or l'.words 12 0 ≡ get_or l.words 12 0
  pub codes : get_or l'.words 13 0 ≡ get_or l.words 13 0

-- Document 02, §1: a silence. Words 3 to 6 of each channel: "every channel becomes not reported and every flow-controlled one has no window"; a plain one keeps its flow state.
pub record Silent (words words' : List ℕ) : Type 0 where
  pub unreported : (i : ℕ) → i < get_or words 1 0 → (get_or words' (14 + 74 * i + 3) 0 ≡ 0) × (get_or words' (14 + 74 * i + 4) 0 ≡ 0)
  pub no_window_lem : (i : ℕ) → i < get_or words 1 0 → get_or words (14 + 74 * i + 1) 0 ≡ 1 → (get_or words' (14 + 74 * i + 5) 0 ≡ 1) × (get_or words' (14 + 74 * i + 6) 0 ≡ 0)
  pub plain : (i j : ℕ) → i < get_or words 1 0 → get_or words (14 + 74 * i + 1) 0 ≡ 0 → 4 < j → j < 7 → get_or words' (14 + 74 * i + j) 0 ≡ get_or words (14 + 74 * i + j) 0

-- where it is not silent no channel's word changes
pub record Unsilenced (words words' : List ℕ) : Type 0 where
  pub stands : (k : ℕ) → 12 < k → get_or words' k 0 ≡ get_or words k 0

-- Document 02 §2: an accepted control message leaves its own Context in words 5 to 7, and three zeros where it has "no Context at all"
pub data ContextLeft (words : List ℕ) : Option (ContextBytes × ℕ) → Type 0 where
  without : get_or words 5 0 ≡ 0 → get_or words 6 0 ≡ 0 → get_or words 7 0 ≡ 0 → ContextLeft words None
  with_bytes : {bytes : ContextBytes} {size : ℕ} → get_or words 5 0 ≡ 1 → get_or words 6 0 ≡ bytes.0 → get_or words 7 0 ≡ size → ContextLeft words (Some (bytes, size))
