-- What is found of a whole file, in whatever pieces it comes.
use Rattle.std.specs.Prelude.{◌≡◌, Bool, true, false, cond, List, [], ◌∷◌, ◌++◌, ℕ, zero, suc, ◌+◌, ◌-◌, ltb, eqb, length, take, drop}
use Rattle.octets.specs.Bytes.{slice}
use Rattle.quantity.specs.Refusals.{FILE-HEAD, RECORD}
use Rattle.lines.specs.Unread.{kept_of}
use Rattle.records.specs.declared.Input.{Input}
use Rattle.records.specs.declared.Order.{Order}
use Rattle.records.specs.declared.Found.TheVariants as found
use Rattle.records.specs.Heads.{captured_in, original_in, order_of}
use Rattle.records.specs.Unread.{LONGEST, next_of, Refilled}

-- what is reported of a file: a record, with how many bytes there were and those that were kept, or a refusal
pub data Report : Type 0 where
  kept : (original : ℕ) (bytes : List ℕ) → Report
  refused : ℕ → Report

-- the first record behind a file's head: none; one that is "cut off or over 65,536 bytes"; a whole one, with its captured and its original length
pub data First : Type 0 where
  none : First
  broken : First
  whole : (captured original : ℕ) → First

unfoldable pub first_of : Bool → List ℕ → First
first_of big bytes =
    cond (eqb (length bytes) 0) none
    (cond (ltb (length bytes) 16) broken
    (cond (ltb LONGEST (captured_in big bytes)) broken
    (cond (ltb (length bytes - 16) (captured_in big bytes)) broken (whole (captured_in big bytes) (original_in big bytes)))))

-- what the first record makes of a file, what stands behind it being reported by `f`
abbrev pub report_first : First → List ℕ → (List ℕ → List Report) → List Report
report_first none bytes f = []
report_first broken bytes f = refused RECORD ∷ []
report_first (whole captured original) bytes f = kept original (take captured (drop 16 bytes)) ∷ f (drop (16 + captured) bytes)

-- the first argument is a bound on the number of records, which each have a head of 16 bytes
unfoldable pub records_with : ℕ → Bool → List ℕ → List Report
records_with zero big bytes = []
records_with (suc k) big bytes = report_first (first_of big bytes) bytes (records_with k big)

-- the records behind a file's head, one after another, up to the end or to the first that is refused
unfoldable pub records_of : Bool → List ℕ → List Report
records_of big bytes = records_with (length bytes) big bytes

abbrev pub report_by : Order → List ℕ → List Report
report_by Order.Bad bytes = refused FILE-HEAD ∷ []
report_by Order.Little bytes = records_of false bytes
report_by Order.Big bytes = records_of true bytes

-- what is reported of a file; "25 bad file header or another link type"
unfoldable pub reports_of : List ℕ → List Report
reports_of file = cond (ltb (length file) 24) (refused FILE-HEAD ∷ []) (report_by (order_of (take 24 file)) (drop 24 file))

-- what is reported of the bytes before a read that failed: what is reported of a file of them, and where that isn't refused, the record that may follow is
-- "cut off"
abbrev pub cut_off : List Report → List Report
cut_off [] = refused RECORD ∷ []
cut_off (kept original bytes ∷ reports) = kept original bytes ∷ cut_off reports
cut_off (refused number ∷ reports) = refused number ∷ reports

-- by whether a read fails behind the bytes, or they are the whole file
abbrev pub closed : Bool → List Report → List Report
closed failed reports = cond failed (cut_off reports) reports

-- the turns of a program: by whether a read fails in the end, the buffer, the input and the bytes that are still to come, what it reports
pub data Turns (failed : Bool) : List ℕ → Input → List ℕ → List Report → Type 0 where
  ends : {buffer : List ℕ} {input : Input} {coming : List ℕ} → next_of buffer input ≡ found.End → Turns failed buffer input coming []
  refuses : {buffer : List ℕ} {input : Input} {coming : List ℕ} {number : ℕ}
      → next_of buffer input ≡ found.Refused number → Turns failed buffer input coming (refused number ∷ [])
  opens : {buffer : List ℕ} {input rest : Input} {coming : List ℕ} {reports : List Report}
      → next_of buffer input ≡ found.Head rest → Turns failed buffer rest coming reports → Turns failed buffer input coming reports
  finds : {buffer : List ℕ} {input rest : Input} {from to original : ℕ} {coming : List ℕ} {reports : List Report}
      → next_of buffer input ≡ found.Record from to original rest → Turns failed buffer rest coming reports
      → Turns failed buffer input coming (kept original (slice from to buffer) ∷ reports)
  -- the bytes that were read come first of those to come, and where none were read, none are, and the read failed or the file has ended
  more : {buffer buffer' : List ℕ} {input r : Input} {coming coming' : List ℕ} {reports : List Report}
      → next_of buffer input ≡ found.More → Refilled buffer input r buffer' → length buffer' ≡ length buffer
      → coming ≡ slice (length (kept_of buffer input.unread)) r.unread.have buffer' ++ coming'
      → (r.unread.ended ≡ true → (r.unread.failed ≡ failed) × (coming' ≡ []))
      → Turns failed buffer' r coming' reports → Turns failed buffer input coming reports
