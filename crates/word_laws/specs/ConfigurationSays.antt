-- What the words of a configuration say, in literal numbers: the Datalink ID, how many channels, HelloTime and silence limit, the setting of the statuses 8 to 15, and
-- four words for each channel: its ID, its kind (0 plain, 1 flow-controlled), its first sequence, the length of its store.
use Rattle.std.specs.Prelude.{ℕ, ◌+◌, ◌*◌, ◌<◌, true, false, List, ◌≡◌, length, get_or}
use Rattle.ips_state.specs.State.{Configuration, start_at}

pub record ConfigurationSays (w : List ℕ) (k : Configuration) : Type 0 where
  pub datalink : k.datalink.id.0 ≡ get_or w 0 0
  pub hello : k.hello ≡ get_or w 2 0
  pub limit : k.limit ≡ get_or w 3 0
  pub codes : k.datalink.codes.0 ≡ get_or w 4 0
  pub many : length k.starts ≡ get_or w 1 0
  pub ids : (i : ℕ) → i < get_or w 1 0 → (start_at k i).setting.id ≡ get_or w (5 + 4 * i) 0
  pub plain : (i : ℕ) → i < get_or w 1 0 → get_or w (5 + 4 * i + 1) 0 ≡ 0 → (start_at k i).setting.controlled ≡ false
  pub controlled : (i : ℕ) → i < get_or w 1 0 → get_or w (5 + 4 * i + 1) 0 ≡ 1 → (start_at k i).setting.controlled ≡ true
  pub firsts : (i : ℕ) → i < get_or w 1 0 → (start_at k i).first.0 ≡ get_or w (5 + 4 * i + 2) 0
  pub stores : (i : ℕ) → i < get_or w 1 0 → (start_at k i).setting.size.0 ≡ get_or w (5 + 4 * i + 3) 0
