-- Numbers 19 and 22 of a start without an order of tests, in literal numbers: what holds of configuration, words and memory where a start is not refused. The
-- configuration has the Datalink ID, the count of channels, HelloTime and silence limit, the setting of the statuses 8 to 15, and of each channel its ID, its kind,
-- its first sequence and the length of its store.
use Rattle.std.specs.Prelude.{ℕ, zero, suc, ◌+◌, ◌*◌, ◌^◌, ◌≤◌, ◌<◌, List, ◌≡◌, length, get_or}

-- "the sum of the stores"
unfoldable pub stores_in : List ℕ → ℕ → ℕ
stores_in w zero = 0
stores_in w (suc n) = stores_in w n + get_or w (5 + 4 * n + 3) 0

-- "channel count, ID 255, an ID twice, no channel 0, store length", "a lent memory whose length isn't the sum of the stores"
pub record StartsExactly (w words memory : List ℕ) : Type 0 where
  pub long : length w ≡ 5 + 4 * get_or w 1 0
  pub datalink : get_or w 0 0 < 256
  pub codes : get_or w 4 0 < 256
  pub some : 1 ≤ get_or w 1 0
  pub few : get_or w 1 0 ≤ 64
  pub ids : (i : ℕ) → i < get_or w 1 0 → get_or w (5 + 4 * i) 0 < 255
  pub kinds : (i : ℕ) → i < get_or w 1 0 → get_or w (5 + 4 * i + 1) 0 ≤ 1
  pub firsts : (i : ℕ) → i < get_or w 1 0 → get_or w (5 + 4 * i + 2) 0 < 2 ^ 32
  pub smallest : (i : ℕ) → i < get_or w 1 0 → 1500 ≤ get_or w (5 + 4 * i + 3) 0
  pub largest : (i : ℕ) → i < get_or w 1 0 → get_or w (5 + 4 * i + 3) 0 ≤ 65536
  pub apart : (i j : ℕ) → i < get_or w 1 0 → j < get_or w 1 0 → get_or w (5 + 4 * i) 0 ≡ get_or w (5 + 4 * j) 0 → i ≡ j
  pub primary : ℕ
  pub primary_inside : primary < get_or w 1 0
  pub primary_is : get_or w (5 + 4 * primary) 0 ≡ 0
  pub stores : length memory ≡ stores_in w (get_or w 1 0)
  pub room : length words ≡ 14 + 74 * get_or w 1 0

-- document 02, §1: not "HelloTime or silence limit of 0"
pub record WaitsExactly (w : List ℕ) : Type 0 where
  pub hello : 1 ≤ get_or w 2 0
  pub limit : 1 ≤ get_or w 3 0
