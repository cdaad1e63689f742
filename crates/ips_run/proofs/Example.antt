-- What these promises ask of a configuration can be met: two flow-controlled channels, whose counts are about to wrap. Assumes nothing.
use Prim.Native.Nat.{ℕ, ◌^◌, ◌<◌}
use mathlib.Core.Bool.{true}
use mathlib.Core.List.{List, [], ◌∷◌}
use mathlib.Core.Path.{◌≡◌, refl}
use native.Mathlib.Omega.{arith}
use Rattle.meaning.specs.Statuses.{DEFAULT-CODES}
use Rattle.ips_channel_rules.specs.Rules.{history}
use Rattle.ips_channel_rules.specs.Simple.{simple}
use Rattle.ips_state.specs.State.{ChannelStart, Configuration, start_at}
use Rattle.ips_state.specs.Limits.{distinct, starts_fit, start_ids, configuration_fits_under, configuration_taken}
use Rattle.ips_run.specs.Run.{Call}
use Rattle.ips_run.specs.Demand.{BytesIn, ruled, seen, happened, simply_at}
use Rattle.ips_run.proofs.Whole.{whole_history}

abbrev start : ℕ → ChannelStart
start id = record { setting = record { id = id; controlled = true; size = record { 0 = 4096 } }; first = record { 0 = 4294967295 } }

abbrev two : Configuration
two = record { datalink = record { id = record { 0 = 1 }; codes = DEFAULT-CODES }; hello = 5000; limit = 9000; starts = start 7 ∷ start 0 ∷ [] }

two_fit : configuration_taken two ≡ true
unfolding configuration_fits_under starts_fit start_ids distinct
two_fit = refl

two_small : (start_at two 0).first.0 < 2 ^ 32
two_small = omega arith

two_history : (cs : List Call) → BytesIn cs → happened two 0 cs ≡ history simple (ruled two 0) (seen two 0 cs) (simply_at two 0)
two_history cs bytes = whole_history two two_fit 0 (omega arith) two_small cs bytes
