-- From an exported start, and any exported calls after it, to demand 3's sentence. Assumes nothing.
use Prim.Native.Nat.{ℕ, ◌<◌}
use mathlib.Core.List.{List}
use lib.ListN.{length}
use Rattle.ips_run.specs.Run.{Call}
use Rattle.ips_run.specs.Demand.{BytesIn}
use Rattle.ips_calls.specs.Own.{ServedSimply}
use Rattle.ips_words_start.specs.Start.{configuration_in}
use Rattle.endpoint.specs.Lent.{Lent, lent, world_in}
use Rattle.endpoint.proofs.Whole.{started_own_in}
use Rattle.nespovarda.specs.Exports.{StartExported, Told, RanExported, replies_said}
use Rattle.handful_laws.specs.Acts as acts
use Rattle.handful_laws.specs.Acts.{Act, RanActs, calls_of, replies_in, BytesInActs}
use Rattle.handful_laws.proofs.Acts.{started_acts}
use Rattle.nespovarda.specs.Handing as handing
use Rattle.nespovarda.specs.Handing.{RanExportedActs, acts_said}
use Rattle.nespovarda.specs.Numbers.{numbers}
use Rattle.nespovarda.proofs.Exporting.{start_says, exports_say, ran_says}
use Rattle.nespovarda.proofs.Handing.{handful_exported}

-- THE STATEMENT: demand 3's sentence, of the numbers and outputs that a caller is told, with nothing asked of configuration, words and memory
pub exported_own : {configuration words memory words' memory' : List ℕ} → StartExported configuration words memory (numbers 1 0) words' memory'
    → (index : ℕ) → index < length (configuration_in configuration).starts → (cs : List Call) → BytesIn cs → (ts : List Told) (last : Lent)
    → RanExported (lent words' memory') cs ts last → ServedSimply (configuration_in configuration) index cs (replies_said cs ts) (world_in last)
exported_own started index inside cs bytes ts last run = started_own_in (start_says started) index inside cs bytes (replies_said cs ts) last (ran_says run)

-- ---- the same with handfuls among the calls
pub acts_say : {l last : Lent} {done : List Act} {ts : List Told} → RanExportedActs l done ts last → RanActs l done (acts_said done ts) last
acts_say handing.over = acts.over
acts_say (handing.called h rest) = acts.called (exports_say h) (acts_say rest)
acts_say (handing.handed h rest) = acts.handed (handful_exported h) (acts_say rest)

pub exported_acts : {configuration words memory words' memory' : List ℕ} → StartExported configuration words memory (numbers 1 0) words' memory'
    → (index : ℕ) → index < length (configuration_in configuration).starts → (done : List Act) → BytesInActs done → (ts : List Told) (last : Lent)
    → RanExportedActs (lent words' memory') done ts last → ServedSimply (configuration_in configuration) index (calls_of done (acts_said done ts)) (replies_in (acts_said done ts)) (world_in last)
exported_acts started index inside done bytes ts last run = started_acts (start_says started) done bytes (acts_said done ts) last (acts_say run) index inside
