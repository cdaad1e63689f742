-- What was read of an input and isn't handed on yet.
use Rattle.std.specs.Prelude.{◌≡◌, Bool, true, false, not, cond, ◌&&◌, ◌||◌, List, [], ℕ, ◌+◌, ◌≤◌, ltb, leb, eqb, length, take, Result, is_err}
use Rattle.std.specs.Result.{result_unwrap_or}
use Rattle.octets.specs.Bytes.{index_of, slice}
use Rattle.lines.specs.declared.Input.{Input}
use Rattle.lines.specs.declared.Found.{Found}
use Rattle.lines.specs.declared.Found.TheVariants.{More, End, Line, Over, Failed}

-- nothing is read yet
abbrev pub start_of : Input
start_of = record { at = 0; have = 0; over = false; ended = false; failed = false }

-- whether what is unread lies within a buffer of n bytes
unfoldable pub tidy_of : ℕ → Input → Bool
tidy_of size input = leb input.at input.have && leb input.have size

-- ---- what stands next

-- the input from an index on, behind a line
abbrev pub rest_of : Input → ℕ → Input
rest_of input at = record { at = at; have = input.have; over = false; ended = input.ended; failed = input.failed }

-- the line up to an index, and the input from another index on; of a line that was dropped, only that
unfoldable pub line_of : Input → ℕ → ℕ → Found
line_of input to at = cond input.over (Over (rest_of input at)) (Line input.at to (rest_of input at))

-- where no newline stands and nothing more comes: a line that was dropped or isn't empty
unfoldable pub last_of : Input → Found
last_of input = cond (input.over || ltb input.at input.have) (line_of input input.have input.have) End

-- what is found by where the next newline (10) stands, or what was read ends; where reading failed, a line without a newline may not be whole
unfoldable pub found_of : Input → ℕ → Found
found_of input to =
    cond (ltb to input.have) (line_of input to (to + 1)) (cond input.failed Failed (cond input.ended (last_of input) More))

-- what stands next; an input that doesn't lie within the buffer is at its end
unfoldable pub next_of : List ℕ → Input → Found
next_of buffer input =
    cond (tidy_of (length buffer) input) (found_of input (input.at + index_of 10 (slice input.at input.have buffer))) End

-- ---- reading more

-- whether the unread line is dropped: its start was, or it fills the buffer
unfoldable pub lost_of : ℕ → Input → Bool
lost_of size input = input.over || eqb input.at 0 && eqb input.have size

-- the bytes that are kept
unfoldable pub kept_of : List ℕ → Input → List ℕ
kept_of buffer input =
    cond (tidy_of (length buffer) input && not (lost_of (length buffer) input)) (slice input.at input.have buffer) []

-- the bytes that a read's answer says came: of one that failed, none
abbrev pub got_of : {E : Type 0} → Result ℕ E → ℕ
got_of answer = result_unwrap_or answer 0

-- what a read makes of an input, by its answer: at its end where no byte came behind those that are kept
abbrev pub read_of : {E : Type 0} → Result ℕ E → ℕ → Bool → Input
read_of answer kept dropped = record { at = 0; have = kept + got_of answer; over = dropped; ended = eqb (kept + got_of answer) kept; failed = is_err answer }

-- bytes at the start of a buffer stay, and more may stand behind them; where none do, the input is at its end, and only there may the read have failed
pub record Behind (buffer : List ℕ) (kept : ℕ) (dropped : Bool) (r : Input) (buffer' : List ℕ) : Type 0 where
  pub start : r.at ≡ 0
  pub stays : take kept buffer' ≡ take kept buffer
  pub least : kept ≤ r.have
  pub most : r.have ≤ length buffer
  pub over : r.over ≡ dropped
  pub ended : r.ended ≡ eqb r.have kept
  pub failed : r.failed ≡ true → r.ended ≡ true

-- what is kept stands at the start, and what was read behind it; of an input that doesn't lie within the buffer nothing is kept or read
pub record Filled (buffer : List ℕ) (input : Input) (r : Input) (buffer' : List ℕ) : Type 0 where
  pub start : r.at ≡ 0
  pub kept : take (length (kept_of buffer input)) buffer' ≡ kept_of buffer input
  pub least : length (kept_of buffer input) ≤ r.have
  pub most : r.have ≤ length buffer
  pub over : r.over ≡ (tidy_of (length buffer) input && lost_of (length buffer) input)
  pub ended : r.ended ≡ eqb r.have (length (kept_of buffer input))
  pub failed : r.failed ≡ true → r.ended ≡ true
  pub untidy : tidy_of (length buffer) input ≡ false → (r.have ≡ 0) × (r.failed ≡ false) × (buffer' ≡ buffer)
