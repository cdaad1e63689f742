-- The lines of docs/STATION.md, in its order: for each command its first word and its row, and what its numbers ask for.
use Rattle.meaning.specs.declared.message.ContextBytes.{ContextBytes}
use Rattle.std.specs.Prelude.{cond, List, [], ◌∷◌, ◌++◌, ◌≡◌, ℕ, ◌+◌, ◌-◌, ◌*◌, ◌^◌, eqb, leb, length, get_or, take, replicate, Option, Some, None}
use Rattle.quantity.specs.Limits.{MOST-CHANNELS, LARGEST-STORE, LONGEST-NAME}
use Rattle.wire.specs.Numbers.{big_endian}
use Rattle.line_rows.specs.Rows.{NUMBER, BYTES, LIST, key_text, Said, over}
use Rattle.line_rows.specs.Tables.{command, said_in, key_in, shortened}
use Rattle.line_rows.specs.Places.{row_of_key, written_out, Within}
use Rattle.station_read.specs.declared.asked.Asked.{Asked}
use Rattle.station_read.specs.declared.asked.Command.{Command}
use Rattle.station_read.specs.declared.line.Line.{Line}

-- ---- the words that a line may have
-- `plain`
abbrev pub PLAIN : ℕ
PLAIN = key_text (112 ∷ 108 ∷ 97 ∷ 105 ∷ 110 ∷ [])

-- `flow`
abbrev pub FLOW : ℕ
FLOW = key_text (102 ∷ 108 ∷ 111 ∷ 119 ∷ [])

-- `start`
abbrev pub START : ℕ
START = key_text (115 ∷ 116 ∷ 97 ∷ 114 ∷ 116 ∷ [])

-- `hear`
abbrev pub HEAR : ℕ
HEAR = key_text (104 ∷ 101 ∷ 97 ∷ 114 ∷ [])

-- `status`
abbrev pub STATUS : ℕ
STATUS = key_text (115 ∷ 116 ∷ 97 ∷ 116 ∷ 117 ∷ 115 ∷ [])

-- `context`
abbrev pub CONTEXT : ℕ
CONTEXT = key_text (99 ∷ 111 ∷ 110 ∷ 116 ∷ 101 ∷ 120 ∷ 116 ∷ [])

-- `queued`
abbrev pub QUEUED : ℕ
QUEUED = key_text (113 ∷ 117 ∷ 101 ∷ 117 ∷ 101 ∷ 100 ∷ [])

-- `link`
abbrev pub LINK : ℕ
LINK = key_text (108 ∷ 105 ∷ 110 ∷ 107 ∷ [])

-- `tell`
abbrev pub TELL : ℕ
TELL = key_text (116 ∷ 101 ∷ 108 ∷ 108 ∷ [])

-- `show`
abbrev pub SHOW : ℕ
SHOW = key_text (115 ∷ 104 ∷ 111 ∷ 119 ∷ [])

-- ---- "the values"

-- "`ID`, `CHANNEL`, a `status` VALUE, a `link` LEN: 0 to 255"
abbrev pub HIGHEST-BYTE : ℕ
HIGHEST-BYTE = 255

-- "`BYTES`, `WATERMARK`, `THROUGHPUT` and `link`'s VALUE: 0 to 18446744073709551615"
abbrev pub LARGEST-COUNT : ℕ
LARGEST-COUNT = 2 ^ 64 - 1

-- "`ROOM`: 0 to 4194304", as in `session`
abbrev pub MOST-ROOM : ℕ
MOST-ROOM = MOST-CHANNELS * LARGEST-STORE

-- "COUNT is 0 to 80"
abbrev pub MOST-SETTINGS : ℕ
MOST-SETTINGS = 80

-- no line says more numbers: `ID COUNT` and four for each channel
abbrev pub PLACES : ℕ
PLACES = 322

-- ---- the table: `start ID COUNT` and `CHANNEL KIND WATERMARK THROUGHPUT` for each channel; `hear ROOM HEX`; `status CHANNEL VALUE ROOM`; `context HEX ROOM`;
-- `queued CHANNEL BYTES ROOM`; `link LEN VALUE`; `tell ROOM`; `show CHANNEL`
abbrev pub COMMANDS : List ℕ
COMMANDS =
    command START
    (NUMBER ∷ HIGHEST-BYTE ∷ NUMBER ∷ MOST-SETTINGS
    ∷ LIST ∷ 4 ∷ NUMBER ∷ HIGHEST-BYTE ∷ PLAIN ∷ FLOW ∷ NUMBER ∷ LARGEST-COUNT ∷ NUMBER ∷ LARGEST-COUNT ∷ [])
    ++ command HEAR (NUMBER ∷ MOST-ROOM ∷ BYTES ∷ 0 ∷ [])
    ++ command STATUS (NUMBER ∷ HIGHEST-BYTE ∷ NUMBER ∷ HIGHEST-BYTE ∷ NUMBER ∷ MOST-ROOM ∷ [])
    ++ command CONTEXT (BYTES ∷ 0 ∷ NUMBER ∷ MOST-ROOM ∷ [])
    ++ command QUEUED (NUMBER ∷ HIGHEST-BYTE ∷ NUMBER ∷ LARGEST-COUNT ∷ NUMBER ∷ MOST-ROOM ∷ [])
    ++ command LINK (NUMBER ∷ HIGHEST-BYTE ∷ NUMBER ∷ LARGEST-COUNT ∷ [])
    ++ command TELL (NUMBER ∷ MOST-ROOM ∷ [])
    ++ command SHOW (NUMBER ∷ HIGHEST-BYTE ∷ [])

-- ---- what the numbers of a command ask for, by their places; a byte string has a place too, with its length. A command for a state is asked with the room of its output
unfoldable pub asked_by : ℕ → (ℕ → ℕ) → Asked
asked_by key n =
    cond (eqb key START) (Asked.Start (n 1))
    (cond (eqb key HEAR) (Asked.State Command.Hear (n 0))
    (cond (eqb key STATUS) (Asked.State (Command.Status (n 0) (n 1)) (n 2))
    (cond (eqb key CONTEXT) (Asked.State Command.Context (n 1))
    (cond (eqb key QUEUED) (Asked.State (Command.Queued (n 0) (n 1)) (n 2))
    (cond (eqb key LINK) (Asked.State (Command.Link (n 0) (n 1)) 0)
    (cond (eqb key TELL) (Asked.State Command.Tell (n 0))
    (cond (eqb key SHOW) (Asked.State (Command.Show (n 0)) 0)
    Asked.Bad)))))))

abbrev pub numbers_in : List ℕ → ℕ → ℕ
numbers_in numbers = λ i. get_or numbers i 0

-- the numbers of a `start` of so many channels are the words of its configuration: `plain` is 0 and `flow` is 1
abbrev pub configuration_in : List ℕ → ℕ → List ℕ
configuration_in numbers count = take (2 + 4 * count) numbers

-- "`-`: none"; of a byte string that is too long only its length counts, which is refused
unfoldable pub context_said : List ℕ → Option (ContextBytes × ℕ)
context_said bytes =
    cond (eqb (length bytes) 0) None (Some (record { 0 = cond (leb (length bytes) LONGEST-NAME) (big_endian bytes) 0 }, length bytes))

-- ---- a line, with room for n bytes
abbrev pub said_by : ℕ → List ℕ → Said
said_by size line = said_in PLACES size COMMANDS (shortened line)

abbrev pub key_by : ℕ → List ℕ → ℕ
key_by size line = key_in PLACES size COMMANDS (shortened line)

unfoldable pub asked_of : ℕ → List ℕ → Asked
asked_of size line = asked_by (key_by size line) (numbers_in (said_by size line).numbers)

-- what a line asks for; the numbers that it says stand at the start of the lent words, with zeros behind them, and the bytes at the start of the lent memory, which
-- is as it was behind them
pub record Asks (lent line : List ℕ) (r : Line) (numbers' lent' : List ℕ) : Type 0 where
  pub asked : r.asked ≡ asked_of (length lent) line
  pub count : r.bytes ≡ length (said_by (length lent) line).bytes
  pub numbers : numbers' ≡ over (said_by (length lent) line).numbers (replicate PLACES 0)
  pub bytes : lent' ≡ over (said_by (length lent) line).bytes lent

-- the numbers of a command are within their bounds
pub record Bounded (key : ℕ) (numbers : List ℕ) : Type 0 where
  pub within : Within (written_out 0 0 (row_of_key key COMMANDS) (numbers_in numbers)) (numbers_in numbers)
