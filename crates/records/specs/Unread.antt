-- What was read of a file and isn't handed on yet.
use Rattle.std.specs.Prelude.{◌≡◌, Bool, true, false, cond, List, ℕ, ◌+◌, ◌-◌, ltb, eqb, length, take}
use Rattle.octets.specs.Bytes.{slice}
use Rattle.quantity.specs.Refusals.{FILE-HEAD, RECORD}
use Rattle.lines.specs.declared.Input as lines
use Rattle.lines.specs.Unread as pieces
use Rattle.records.specs.declared.Input.{Input}
use Rattle.records.specs.declared.Order.{Order}
use Rattle.records.specs.declared.Found.{Found}
use Rattle.records.specs.declared.Found.TheVariants.{More, End, Head, Record, Refused}
use Rattle.records.specs.Heads.{captured_in, original_in, order_of}

-- the longest record that is taken, and the heads
abbrev pub LONGEST : ℕ
LONGEST = 65536

-- room for the longest record with its head
abbrev pub ROOM : ℕ
ROOM = 65552

-- nothing is read yet
abbrev pub start_of : Input
start_of = record { unread = pieces.start_of; opened = false; big = false }

-- all n bytes of a file are held already
abbrev pub held_of : ℕ → Input
held_of n = record { unread = record { at = 0; have = n; over = false; ended = true; failed = false }; opened = false; big = false }

-- ---- what stands next

-- the input of an opened file behind n bytes
abbrev pub behind_of : lines.Input → ℕ → Bool → Input
behind_of unread n big = record { unread = pieces.rest_of unread (unread.at + n); opened = true; big = big }

-- where there is too little of something: cut off, if nothing more comes
abbrev pub short_of : Bool → ℕ → Found
short_of ended number = cond ended (Refused number) More

-- between two records: the end, if nothing more comes; if reading failed, the record that may follow is "cut off"
abbrev pub between_of : lines.Input → Found
between_of unread = cond unread.ended (cond unread.failed (Refused RECORD) End) More

-- by the byte order of a file's head
abbrev pub opened_by : lines.Input → Order → Found
opened_by unread Order.Bad = Refused FILE-HEAD
opened_by unread Order.Little = Head (behind_of unread 24 false)
opened_by unread Order.Big = Head (behind_of unread 24 true)

-- of the file's head, by the bytes that are unread
unfoldable pub head_found : List ℕ → lines.Input → Found
head_found bytes unread = cond (ltb (length bytes) 24) (short_of unread.ended FILE-HEAD) (opened_by unread (order_of (take 24 bytes)))

-- of a record: an end between two of them; a head that is cut off; a length that is too large; bytes that are cut off; a whole one
unfoldable pub record_found : List ℕ → lines.Input → Bool → Found
record_found bytes unread big =
    cond (eqb (length bytes) 0) (between_of unread)
    (cond (ltb (length bytes) 16) (short_of unread.ended RECORD)
    (cond (ltb LONGEST (captured_in big bytes)) (Refused RECORD)
    (cond (ltb (length bytes - 16) (captured_in big bytes)) (short_of unread.ended RECORD)
    (Record (unread.at + 16) (unread.at + 16 + captured_in big bytes) (original_in big bytes) (behind_of unread (16 + captured_in big bytes) big)))))

-- the bytes that are unread
abbrev pub bytes_in : List ℕ → Input → List ℕ
bytes_in buffer input = slice input.unread.at input.unread.have buffer

-- what stands next; an input that doesn't lie within the buffer is at its end
unfoldable pub next_of : List ℕ → Input → Found
next_of buffer input =
    cond (pieces.tidy_of (length buffer) input.unread)
    (cond input.opened (record_found (bytes_in buffer input) input.unread input.big) (head_found (bytes_in buffer input) input.unread))
    End

-- ---- reading more

-- what is unread is kept, and more read behind it; the rest stays
pub record Refilled (buffer : List ℕ) (input : Input) (r : Input) (buffer' : List ℕ) : Type 0 where
  pub filled : pieces.Filled buffer input.unread r.unread buffer'
  pub opened : r.opened ≡ input.opened
  pub big : r.big ≡ input.big
