-- Channels in words: those of each stand one behind another behind a head, its ID first.
use Rattle.std.specs.Prelude.{ℕ, ◌+◌, ◌*◌, ◌≤◌, ◌<◌, ◌≡◌, List, length, get_or}
use Rattle.facts.specs.Tables.{tabulate}

-- their IDs
unfoldable pub numbers : (head slot : ℕ) → List ℕ → ℕ → List ℕ
numbers head slot words count = tabulate count (λ index. get_or words (head + slot * index) 0)

-- what has been tested before a channel is sought
pub record Rows (head slot : ℕ) (words : List ℕ) (count : ℕ) : Type 0 where
  pub long : length words ≡ head + slot * count
  pub some : 0 < slot
  pub few : count ≤ 64
