-- The verdicts that are printed are those of some file, the one that the turns read, in whatever pieces it came. Assumes nothing.
use mathlib.Core.List.{List}
use mathlib.Core.Logic.{◌⊎◌, inl, inr}
use Prim.Native.Nat.{ℕ, ◌≤◌}
use lib.ListN.{length}
use Rattle.quantity.specs.declared.count.DatalinkId.{DatalinkId}
use Rattle.records.specs.Unread.{ROOM}
use Rattle.records.specs.Reading.{ReadFile, TurnedOut}
use Rattle.records.proofs.Pieces.{ran_file}
use Rattle.ethernet.specs.declared.Ports.{Ports}
use Rattle.conduct.specs.Words.{WORDS}
use Rattle.conduct.proofs.Whole.{whole_finding}
use Rattle.judge.specs.Serving.{Judged, SaysOf}

-- "decide for each channel": the words from which the verdicts are printed say what is so of the file that was read
pub judged_says : (ports : Ports) (id : DatalinkId) (lent : List ℕ) (n : ℕ) → ROOM ≤ length lent → WORDS ≤ n → {words : List ℕ} → Judged ports id lent n words
    → SaysOf ports id lent words ⊎ TurnedOut lent
judged_says ports id lent n room words-room {words} k = go (ran_file k.ran)
  where
    go : ReadFile lent k.reports ⊎ TurnedOut lent → SaysOf ports id lent words ⊎ TurnedOut lent
    go (inl read) =
        inl
        (record {
          failed = read.failed;
          file = read.file;
          reports = k.reports;
          turns = read.turns;
          says = λ channel known. rw k.words_are (whole_finding ports id lent read.file k.reports room read.turns channel n known words-room);
        })
    go (inr out) = inr out
