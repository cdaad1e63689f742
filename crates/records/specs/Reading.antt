-- What a reader of records is handed, one record after another: of a file in memory, and of one that is read in pieces.
use Rattle.std.specs.Prelude.{◌≡◌, Bool, List, [], ◌∷◌, ◌++◌, ℕ, suc, length}
use Rattle.octets.specs.Bytes.{slice}
use Rattle.quantity.specs.Refusals.{FILE-HEAD, RECORD}
use Rattle.records.specs.declared.Input.{Input}
use Rattle.records.specs.declared.Came.{Came}
use Rattle.records.specs.declared.Found.{Found}
use Rattle.records.specs.declared.Found.TheVariants as found
use Rattle.records.specs.Unread.{start_of, next_of, Refilled}
use Rattle.records.specs.Files.{Report, kept, refused, Turns}

-- what is handed on of what stands next: a record, the end, a refusal; what isn't whole, with nothing more to be read, is "cut off"
unfoldable pub came_by : Found → Came
came_by found.More = Came.Refused RECORD
came_by found.End = Came.End
came_by (found.Head rest) = Came.Refused FILE-HEAD
came_by (found.Record from to original rest) = Came.Record from to original rest
came_by (found.Refused number) = Came.Refused number

-- the file's head is passed over
abbrev pub past_head : List ℕ → Found → Found
past_head file found.More = found.More
past_head file found.End = found.End
past_head file (found.Head rest) = next_of file rest
past_head file (found.Record from to original rest) = found.Record from to original rest
past_head file (found.Refused number) = found.Refused number

-- the next record of a file of which all is in memory
unfoldable pub record_in : List ℕ → Input → Came
record_in file input = came_by (past_head file (next_of file input))

-- what is reported by it: a record, or a refusal; of the end nothing
abbrev pub reports_by : List ℕ → Came → List Report
reports_by buffer Came.End = []
reports_by buffer (Came.Record from to original rest) = kept original (slice from to buffer) ∷ []
reports_by buffer (Came.Refused number) = refused number ∷ []

-- ---- of a file that is read in pieces

-- so many turns of a reader, from a buffer and an input on: more is read as it is asked for, and the file's head passed over
pub data Passed (lent : List ℕ) (start : Input) : ℕ → List ℕ → Input → Type 0 where
  here : Passed lent start 0 lent start
  opened : {n : ℕ} {buffer : List ℕ} {input rest : Input} → Passed lent start n buffer input → next_of buffer input ≡ found.Head rest → Passed lent start (suc n) buffer rest
  filled : {n : ℕ} {buffer buffer' : List ℕ} {input r : Input} → Passed lent start n buffer input → next_of buffer input ≡ found.More → Refilled buffer input r buffer'
      → length buffer' ≡ length buffer → Passed lent start (suc n) buffer' r

-- the most turns that are made: 2^64 - 1
abbrev pub MOST-TURNS : ℕ
MOST-TURNS = 18446744073709551615

-- what comes of a lent buffer and an input, and the buffer that it leaves: what stands next behind such turns; what isn't whole by the last of them is "cut off"
pub data Comes (lent : List ℕ) (start : Input) : Came → List ℕ → Type 0 where
  ending : {n : ℕ} {buffer : List ℕ} {input : Input} → Passed lent start n buffer input → next_of buffer input ≡ found.End → Comes lent start Came.End buffer
  finding : {n from to original : ℕ} {buffer : List ℕ} {input rest : Input} → Passed lent start n buffer input → next_of buffer input ≡ found.Record from to original rest
      → Comes lent start (Came.Record from to original rest) buffer
  refusing : {n number : ℕ} {buffer : List ℕ} {input : Input} → Passed lent start n buffer input → next_of buffer input ≡ found.Refused number
      → Comes lent start (Came.Refused number) buffer
  tiring : {buffer : List ℕ} {input : Input} → Passed lent start MOST-TURNS buffer input → Comes lent start (Came.Refused RECORD) buffer

-- so many records came, one after another from the start on, each of what the one before left
pub data Run (lent : List ℕ) : ℕ → List ℕ → Input → List Report → Type 0 where
  begun : Run lent 0 lent start_of []
  on : {n from to original : ℕ} {buffer buffer' : List ℕ} {input rest : Input} {reports : List Report} → Run lent n buffer input reports
      → Comes buffer input (Came.Record from to original rest) buffer' → Run lent (suc n) buffer' rest (reports ++ kept original (slice from to buffer') ∷ [])

-- all that a program reports: the records that came up to the end, or up to a refusal and this; or as many as there are turns
pub data Ran (lent : List ℕ) : List Report → Type 0 where
  to_end : {n : ℕ} {buffer buffer' : List ℕ} {input : Input} {reports : List Report} → Run lent n buffer input reports → Comes buffer input Came.End buffer'
      → Ran lent reports
  to_refusal : {n number : ℕ} {buffer buffer' : List ℕ} {input : Input} {reports : List Report} → Run lent n buffer input reports
      → Comes buffer input (Came.Refused number) buffer' → Ran lent (reports ++ refused number ∷ [])
  on_and_on : {buffer : List ℕ} {input : Input} {reports : List Report} → Run lent MOST-TURNS buffer input reports → Ran lent reports

-- a file, read whole or up to a read that fails, of which this is reported
pub record ReadFile (lent : List ℕ) (reports : List Report) : Type 0 where
  pub failed : Bool
  pub file : List ℕ
  pub turns : Turns failed lent start_of file reports

-- all turns were made, for one record or for all of them
pub data TurnedOut (lent : List ℕ) : Type 0 where
  in_record : {n : ℕ} {buffer buffer' : List ℕ} {input input' : Input} {reports : List Report} → Run lent n buffer input reports
      → Passed buffer input MOST-TURNS buffer' input' → TurnedOut lent
  in_records : {buffer : List ℕ} {input : Input} {reports : List Report} → Run lent MOST-TURNS buffer input reports → TurnedOut lent
