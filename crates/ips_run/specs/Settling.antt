-- Demand 3: "Every packet taken in is, at each moment, exactly one of sent, expired, withdrawn or waiting": which call gave which fate, and why.
use Rattle.std.specs.Prelude.{ℕ, List, [], ◌∷◌}
use Rattle.ips_channel_rules.specs.Rules.{Happened, final}
use Rattle.ips_channel_rules.specs.Simple.{simple, Entry}
use Rattle.ips_channel_rules.specs.Fates.{Settles}
use Rattle.ips_state.specs.State.{Configuration}
use Rattle.ips_run.specs.Run.{Call}
use Rattle.ips_run.specs.Demand.{ruled, seen, simply_at}

-- the ledger of the channel at an index of the configuration: the simple channel's, on what it saw
abbrev pub ledger_at : Configuration → ℕ → List Call → List Entry
ledger_at k index cs = (final simple (ruled k index) (seen k index cs) (simply_at k index)).keeping

-- what happened, one after the other: each settles what it may settle, all that it must, and nothing else does
pub data SettledAll : List Happened → (before after : List Entry) → Type 0 where
  nothing : {entries : List Entry} → SettledAll [] entries entries
  first : {h : Happened} {hs : List Happened} {before between after : List Entry} → Settles h before between → SettledAll hs between after → SettledAll (h ∷ hs) before after
