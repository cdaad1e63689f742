-- The counts that are printed are those of some file, the one that the turns read, in whatever pieces it came. Assumes nothing.
use mathlib.Core.Path.{ap, ◌∙◌}
use mathlib.Core.List.{List}
use mathlib.Core.Logic.{◌⊎◌, inl, inr}
use Prim.Native.Nat.{ℕ, ◌≤◌}
use lib.ListN.{length, get_or, replicate}
use Rattle.quantity.specs.declared.count.DatalinkId.{DatalinkId}
use Rattle.records.specs.Unread.{ROOM}
use Rattle.records.specs.Endings.{refusal_in}
use Rattle.records.specs.Reading.{ReadFile, TurnedOut}
use Rattle.records.proofs.Pieces.{ran_file}
use Rattle.records.proofs.Whole.{every_record}
use Rattle.ethernet.specs.declared.Ports.{Ports}
use Rattle.census.specs.Places.{PLACES}
use Rattle.census.specs.Counts.{place_of}
use Rattle.census.proofs.Totals.{whole_count}
use Rattle.report.specs.Serving.{Served, CountsOf}

pub served_counts : (ports : Ports) (id : DatalinkId) (lent : List ℕ) → ROOM ≤ length lent → {r : ℕ} {counts : List ℕ} → Served ports id lent (replicate PLACES 0) r counts
    → CountsOf ports id lent r counts ⊎ TurnedOut lent
served_counts ports id lent room {r} {counts} k = go (ran_file k.ran)
  where
    go : ReadFile lent k.reports ⊎ TurnedOut lent → CountsOf ports id lent r counts ⊎ TurnedOut lent
    go (inl read) =
        inl
        (record {
          failed = read.failed;
          file = read.file;
          reports = k.reports;
          turns = read.turns;
          refusal = k.refusal ∙ ap refusal_in (every_record lent read.file k.reports room read.turns);
          counts_are = λ count known. ap (λ (l : List ℕ). get_or l (place_of count) 0) k.counts_are ∙ whole_count ports id lent read.file k.reports room read.turns count known;
        })
    go (inr out) = inr out
