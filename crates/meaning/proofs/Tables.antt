-- The three tables of a control message are over the Channel IDs. Assumes nothing.
use Rattle.std.specs.Prelude.{ℕ, Option}
use Rattle.quantity.specs.declared.count.FlowSequence.{FlowSequence}
use Rattle.meaning.specs.declared.message.Window.{Window}
use mathlib.Core.Path.{◌≡◌}
use mathlib.Core.List.{List}
use lib.ListN.{length}
use Rattle.quantity.specs.Limits.{CHANNEL-IDS}

-- the three tables are over the Channel IDs
pub record Full (statuses : List (Option ℕ)) (sequences : List (Option FlowSequence)) (windows : List (Option Window)) : Type 0 where
  pub statuses_full : length statuses ≡ CHANNEL-IDS
  pub sequences_full : length sequences ≡ CHANNEL-IDS
  pub windows_full : length windows ≡ CHANNEL-IDS
