-- What the program makes of a capture: a turn, all turns, and what its counts then say of the file that was read.
use Rattle.std.specs.Prelude.{◌≡◌, Bool, List, ℕ, min, get_or}
use Rattle.quantity.specs.declared.count.DatalinkId.{DatalinkId}
use Rattle.records.specs.declared.Input.{Input}
use Rattle.records.specs.declared.Came.{Came}
use Rattle.records.specs.Unread.{start_of}
use Rattle.records.specs.Files.{Report, reports_of, closed, Turns}
use Rattle.records.specs.Endings.{refusal_in}
use Rattle.records.specs.Reading.{reports_by, Comes, Ran}
use Rattle.ethernet.specs.declared.Ports.{Ports}
use Rattle.census.specs.Adding.{MOST}
use Rattle.census.specs.Counts.{Count, Counted, place_of, amount_of, total_of, outcomes_of, count_all}

-- one turn: what came of the lent buffer and the input; the counts are those of what it reports, the next record
pub record TurnedTo (ports : Ports) (id : DatalinkId) (lent : List ℕ) (input : Input) (counts : List ℕ) (r : Came) (buffer' counts' : List ℕ) : Type 0 where
  pub comes : Comes lent input r buffer'
  pub counts_are : counts' ≡ count_all (outcomes_of ports id (reports_by buffer' r)) counts

-- all turns: every record that came, counted once and in order, and the number of the refusal behind them, or 0
pub record Served (ports : Ports) (id : DatalinkId) (lent counts : List ℕ) (r : ℕ) (counts' : List ℕ) : Type 0 where
  pub reports : List Report
  pub ran : Ran lent reports
  pub refusal : r ≡ refusal_in reports
  pub counts_are : counts' ≡ count_all (outcomes_of ports id reports) counts

-- the number and every count are so of a file, read whole or up to a read that failed, one that a program's turns read into the lent buffer
pub record CountsOf (ports : Ports) (id : DatalinkId) (lent : List ℕ) (r : ℕ) (counts : List ℕ) : Type 0 where
  pub failed : Bool
  pub file : List ℕ
  pub reports : List Report
  pub turns : Turns failed lent start_of file reports
  pub refusal : r ≡ refusal_in (closed failed (reports_of file))
  pub counts_are : (count : Count) → Counted count → get_or counts (place_of count) 0 ≡ min MOST (total_of (amount_of count) (outcomes_of ports id (closed failed (reports_of file))))
