-- What is found of a whole input, in whatever pieces it comes.
use Rattle.std.specs.Prelude.{◌≡◌, Bool, true, cond, List, [], ◌∷◌, ◌++◌, map, ℕ, ltb, eqb, length}
use Rattle.octets.specs.Bytes.{slice}
use Rattle.lines.specs.declared.Input.{Input}
use Rattle.lines.specs.declared.Found.TheVariants.{More, End, Line, Over, Failed}
use Rattle.lines.specs.Unread.{next_of, kept_of, Filled}

-- a byte before the first of some lines
abbrev pub longer : ℕ → List (List ℕ) → List (List ℕ)
longer byte [] = (byte ∷ []) ∷ []
longer byte (line ∷ lines) = (byte ∷ line) ∷ lines

-- the lines of an input: each ends at a newline (10); a last one without it counts if it isn't empty
unfoldable pub lines_of : List ℕ → List (List ℕ)
lines_of [] = []
lines_of (byte ∷ bytes) = cond (eqb byte 10) ([] ∷ lines_of bytes) (longer byte (lines_of bytes))

-- a byte before the first of some lines, where there is one
abbrev pub before : ℕ → List (List ℕ) → List (List ℕ)
before byte [] = []
before byte (line ∷ lines) = (byte ∷ line) ∷ lines

-- the lines that ended, where a read fails behind an input: what stands behind the last newline is none
unfoldable pub ended_of : List ℕ → List (List ℕ)
ended_of [] = []
ended_of (byte ∷ bytes) = cond (eqb byte 10) ([] ∷ ended_of bytes) (before byte (ended_of bytes))

-- what is reported of a line: its bytes, or that it was dropped
pub data Report : Type 0 where
  whole : List ℕ → Report
  dropped : Report

-- a line is dropped that has no room with its newline in a buffer of n bytes
abbrev pub report_of : ℕ → List ℕ → Report
report_of size line = cond (ltb (length line) size) (whole line) dropped

-- what is reported of an input
abbrev pub reports_of : ℕ → List ℕ → List Report
reports_of size bytes = map (report_of size) (lines_of bytes)

-- the turns of a program: by whether a read fails in the end, the buffer, the input and the bytes that are still to come, what it reports
pub data Turns (failed : Bool) : List ℕ → Input → List ℕ → List Report → Type 0 where
  ends : {buffer : List ℕ} {input : Input} {coming : List ℕ} → next_of buffer input ≡ End → Turns failed buffer input coming []
  fails : {buffer : List ℕ} {input : Input} {coming : List ℕ} → next_of buffer input ≡ Failed → Turns failed buffer input coming []
  line : {buffer : List ℕ} {input rest : Input} {from to : ℕ} {coming : List ℕ} {reports : List Report}
      → next_of buffer input ≡ Line from to rest → Turns failed buffer rest coming reports
      → Turns failed buffer input coming (whole (slice from to buffer) ∷ reports)
  over : {buffer : List ℕ} {input rest : Input} {coming : List ℕ} {reports : List Report}
      → next_of buffer input ≡ Over rest → Turns failed buffer rest coming reports → Turns failed buffer input coming (dropped ∷ reports)
  -- the bytes that were read come first of those to come, and where none were read, none are, and the read failed or the input has ended
  more : {buffer buffer' : List ℕ} {input r : Input} {coming coming' : List ℕ} {reports : List Report}
      → next_of buffer input ≡ More → Filled buffer input r buffer' → length buffer' ≡ length buffer
      → coming ≡ slice (length (kept_of buffer input)) r.have buffer' ++ coming' → (r.ended ≡ true → (r.failed ≡ failed) × (coming' ≡ []))
      → Turns failed buffer' r coming' reports → Turns failed buffer input coming reports
