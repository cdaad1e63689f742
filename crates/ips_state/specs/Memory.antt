-- "one store .. for each channel, all of them end to end in configuration order in one lent memory": where a channel's store stands, and the world that a call
-- takes and leaves.
use Rattle.std.specs.Prelude.{ℕ, ◌+◌, Bool, ◌&&◌, List, ◌++◌, length, take, drop, eqb}
use Rattle.quantity.specs.Limits.{Limits, CURRENT-LIMITS}
use Rattle.meaning.specs.Kinds.{among}
use Rattle.ips_channel.specs.declared.state.Channel.{Channel}
use Rattle.ips_state.specs.State.{State, channel_at}
use Rattle.ips_state.specs.Limits.{ids, index_of, sizes, state_fits_under}

-- "a lent memory whose length isn't the sum of the stores" is refused by 19
unfoldable pub memory_fits : State → List ℕ → Bool
memory_fits s memory = eqb (length memory) (sizes s.channels)

unfoldable pub start_of : State → ℕ → ℕ
start_of s index = sizes (take index s.channels)

unfoldable pub store_at : State → ℕ → List ℕ → List ℕ
store_at s index memory = take (channel_at s index).setting.size.0 (drop (start_of s index) memory)

-- the memory with the store of one channel replaced, "and the other stores as lent"
unfoldable pub with_store : State → ℕ → List ℕ → List ℕ → List ℕ
with_store s index memory store = take (start_of s index) memory ++ (store ++ drop (start_of s index + (channel_at s index).setting.size.0) memory)

-- ---- the state, and the memory that is lent with it
pub record World : Type 0 where
  pub state : State
  pub memory : List ℕ

-- what 19 asks of them
abbrev pub world_fits_under : Limits → World → Bool
world_fits_under limits w = state_fits_under limits w.state && memory_fits w.state w.memory

abbrev pub world_fits : World → Bool
world_fits w = world_fits_under CURRENT-LIMITS w

-- a channel is found by its ID, wherever it stands in the configuration
abbrev pub is_configured : World → ℕ → Bool
is_configured w id = among id (ids w.state.channels)

abbrev pub index_in : World → ℕ → ℕ
index_in w id = index_of id (ids w.state.channels)

-- the channel at an index of the configuration, and its store
abbrev pub channel_in : World → ℕ → Channel
channel_in w index = channel_at w.state index

abbrev pub store_in : World → ℕ → List ℕ
store_in w index = store_at w.state index w.memory
