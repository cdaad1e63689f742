-- What the program makes of a capture: a turn, all turns, and what its verdicts then say of the file that was read.
use Rattle.std.specs.Prelude.{◌≡◌, Bool, List, ℕ, ◌<◌, replicate}
use Rattle.quantity.specs.Limits.{CHANNEL-IDS}
use Rattle.quantity.specs.declared.count.DatalinkId.{DatalinkId}
use Rattle.records.specs.declared.Input.{Input}
use Rattle.records.specs.Unread.{start_of}
use Rattle.records.specs.Files.{Report, reports_of, closed, Turns}
use Rattle.records.specs.Reading.{reports_by, Comes, Ran}
use Rattle.ethernet.specs.declared.Ports.{Ports}
use Rattle.conduct.specs.declared.verdict.Tally.{Tally}
use Rattle.conduct.specs.Account.{Says}
use Rattle.conduct.specs.Outcomes.{tallied_all}
use Rattle.conduct.specs.Words.{finding_of, judged_all}
use Rattle.judge.specs.declared.Left.{Left}

-- one turn: what came of the lent buffer and the input; the words and the counts are those of what it reports, the next record or the refusal
pub record TurnedTo (ports : Ports) (id : DatalinkId) (number : ℕ) (lent : List ℕ) (input : Input) (tally : Tally) (words : List ℕ) (r : Left) (buffer' words' : List ℕ) : Type 0 where
  pub comes : Comes lent input r.came buffer'
  pub words_are : words' ≡ judged_all ports id number (reports_by buffer' r.came) words
  pub tally_is : r.tally ≡ tallied_all ports id (reports_by buffer' r.came) tally

-- no record yet
abbrev pub no_tally : Tally
no_tally = record { judged = 0; skipped = 0 }

-- all turns: every record that came, judged and counted once and in order, by its number from 1, and a refusal behind them
pub record Served (ports : Ports) (id : DatalinkId) (lent words : List ℕ) (r : Tally) (words' : List ℕ) : Type 0 where
  pub reports : List Report
  pub ran : Ran lent reports
  pub words_are : words' ≡ judged_all ports id 1 reports words
  pub tally_is : r ≡ tallied_all ports id reports no_tally

-- the words from which the verdicts are printed: the same from zeros on
pub record Judged (ports : Ports) (id : DatalinkId) (lent : List ℕ) (n : ℕ) (words' : List ℕ) : Type 0 where
  pub reports : List Report
  pub ran : Ran lent reports
  pub words_are : words' ≡ judged_all ports id 1 reports (replicate n 0)

-- what the words say of every channel is so of a file, read whole or up to a read that failed, one that a program's turns read into the lent buffer
pub record SaysOf (ports : Ports) (id : DatalinkId) (lent words : List ℕ) : Type 0 where
  pub failed : Bool
  pub file : List ℕ
  pub reports : List Report
  pub turns : Turns failed lent start_of file reports
  pub says : (channel : ℕ) → channel < CHANNEL-IDS → Says ports id (closed failed (reports_of file)) channel (finding_of words channel)
