-- How far the code has read a line: cursors into the line and the lent slices, and what they stand for.
use Rattle.std.specs.Prelude.{◌≡◌, false, cond, List, [], ◌++◌, ℕ, ◌≤◌, eqb, length, take, drop, Option, Some, None}
use Rattle.line_rows.specs.declared.row.Cursor.{Cursor}
use Rattle.line_rows.specs.Rows.{BYTES, bytes_of, value_of, on_number, Said}

-- the bytes that a word laid at the start of the lent memory
abbrev pub bytes_got : ℕ → List ℕ → Option ℕ → List ℕ
bytes_got a word None = []
bytes_got a word (Some v) = bytes_of a word

-- how many they are
unfoldable pub length_laid : ℕ → ℕ → ℕ
length_laid a value = cond (eqb a BYTES) value 0

pub record ValueSaid (a b : ℕ) (lent word : List ℕ) (r : Option ℕ) (lent' : List ℕ) : Type 0 where
  pub answer : r ≡ value_of a b (length lent) word
  pub fits : length (bytes_got a word r) ≤ length lent
  pub bytes : lent' ≡ bytes_got a word r ++ drop (length (bytes_got a word r)) lent
  pub counted : on_number 0 (length_laid a) r ≡ length (bytes_got a word r)

-- a rest of a line starts at a place
pub record StartsAt (line : List ℕ) (at : ℕ) (rest : List ℕ) : Type 0 where
  pub within : at ≤ length line
  pub starts : drop at line ≡ rest

abbrev pub stopped_at : Cursor → Cursor
stopped_at s = record { good = false; at = s.at; numbers = s.numbers; bytes = s.bytes }

-- the cursors are within
pub record Inside (line : List ℕ) (s : Cursor) (numbers bytes : List ℕ) : Type 0 where
  pub at_inside : s.at ≤ length line
  pub numbers_inside : s.numbers ≤ length numbers
  pub bytes_inside : s.bytes ≤ length bytes

abbrev pub said_at : List ℕ → Cursor → List ℕ → List ℕ → Said
said_at line s numbers bytes = record { good = s.good; rest = drop s.at line; numbers = take s.numbers numbers; bytes = take s.bytes bytes }

-- from one place of a line to another: what is said there, and that the lent slices are as they were behind what was said
pub record Advances (line : List ℕ) (s : Cursor) (numbers bytes : List ℕ) (whole : Said) (r : Cursor) (numbers' bytes' : List ℕ) : Type 0 where
  pub stands : Inside line r numbers' bytes'
  pub said : said_at line r numbers' bytes' ≡ whole
  pub size_numbers : length numbers' ≡ length numbers
  pub size_bytes : length bytes' ≡ length bytes
  pub more_numbers : s.numbers ≤ r.numbers
  pub more_bytes : s.bytes ≤ r.bytes
  pub other_numbers : drop r.numbers numbers' ≡ drop r.numbers numbers
  pub other_bytes : drop r.bytes bytes' ≡ drop r.bytes bytes
