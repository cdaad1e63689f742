-- The lines of docs/SESSION.md, in its order: for each command its first word and its row, and what its numbers ask for.
use Rattle.std.specs.Prelude.{cond, List, [], ◌∷◌, ◌++◌, ◌≡◌, ℕ, ◌-◌, ◌*◌, ◌^◌, ◌<◌, ◌≤◌, eqb, length, get_or, replicate}
use Rattle.quantity.specs.Limits.{MOST-CHANNELS, LARGEST-STORE}
use Rattle.line_rows.specs.Rows.{NUMBER, BYTES, LIST, OPTIONAL, key_text, Said, over}
use Rattle.line_rows.specs.Tables.{command, said_in, key_in, shortened}
use Rattle.line_rows.specs.Places.{row_of_key, written_out, Within}
use Rattle.meaning.specs.declared.message.End.{End}
use Rattle.session_read.specs.declared.asked.Asked.{Asked}
use Rattle.session_read.specs.declared.asked.Command.{Command}
use Rattle.session_read.specs.declared.start.StartWords.{StartWords}
use Rattle.session_read.specs.declared.line.Line.{Line}
use Rattle.ips_words_start.specs.Start.{configuration_length}
use Rattle.session_read.specs.Start.{SAID-COUNT, store_said, start_from, no_start, configuration_from}
use Rattle.session_read.specs.Offers.{SAID-TIME, channel_count, expiry_count, length_count, counts_from, lists_from}

-- ---- the words that a line may have
-- `ips`
abbrev pub IPS : ℕ
IPS = key_text (105 ∷ 112 ∷ 115 ∷ [])

-- `radio`
abbrev pub RADIO : ℕ
RADIO = key_text (114 ∷ 97 ∷ 100 ∷ 105 ∷ 111 ∷ [])

-- `plain`
abbrev pub PLAIN : ℕ
PLAIN = key_text (112 ∷ 108 ∷ 97 ∷ 105 ∷ 110 ∷ [])

-- `flow`
abbrev pub FLOW : ℕ
FLOW = key_text (102 ∷ 108 ∷ 111 ∷ 119 ∷ [])

-- `memory`
abbrev pub MEMORY : ℕ
MEMORY = key_text (109 ∷ 101 ∷ 109 ∷ 111 ∷ 114 ∷ 121 ∷ [])

-- `codes`
abbrev pub CODES : ℕ
CODES = key_text (99 ∷ 111 ∷ 100 ∷ 101 ∷ 115 ∷ [])

-- `channels`
abbrev pub CHANNELS : ℕ
CHANNELS = key_text (99 ∷ 104 ∷ 97 ∷ 110 ∷ 110 ∷ 101 ∷ 108 ∷ 115 ∷ [])

-- `expiries`
abbrev pub EXPIRIES : ℕ
EXPIRIES = key_text (101 ∷ 120 ∷ 112 ∷ 105 ∷ 114 ∷ 105 ∷ 101 ∷ 115 ∷ [])

-- `lengths`
abbrev pub LENGTHS : ℕ
LENGTHS = key_text (108 ∷ 101 ∷ 110 ∷ 103 ∷ 116 ∷ 104 ∷ 115 ∷ [])

-- `answers`
abbrev pub ANSWERS : ℕ
ANSWERS = key_text (97 ∷ 110 ∷ 115 ∷ 119 ∷ 101 ∷ 114 ∷ 115 ∷ [])

-- `read`
abbrev pub READ : ℕ
READ = key_text (114 ∷ 101 ∷ 97 ∷ 100 ∷ [])

-- `echo`
abbrev pub ECHO : ℕ
ECHO = key_text (101 ∷ 99 ∷ 104 ∷ 111 ∷ [])

-- `start`
abbrev pub START : ℕ
START = key_text (115 ∷ 116 ∷ 97 ∷ 114 ∷ 116 ∷ [])

-- `offer`
abbrev pub OFFER : ℕ
OFFER = key_text (111 ∷ 102 ∷ 102 ∷ 101 ∷ 114 ∷ [])

-- `offers`
abbrev pub OFFERS : ℕ
OFFERS = key_text (111 ∷ 102 ∷ 102 ∷ 101 ∷ 114 ∷ 115 ∷ [])

-- `next`
abbrev pub NEXT : ℕ
NEXT = key_text (110 ∷ 101 ∷ 120 ∷ 116 ∷ [])

-- `withdraw`
abbrev pub WITHDRAW : ℕ
WITHDRAW = key_text (119 ∷ 105 ∷ 116 ∷ 104 ∷ 100 ∷ 114 ∷ 97 ∷ 119 ∷ [])

-- `query`
abbrev pub QUERY : ℕ
QUERY = key_text (113 ∷ 117 ∷ 101 ∷ 114 ∷ 121 ∷ [])

-- `show`
abbrev pub SHOW : ℕ
SHOW = key_text (115 ∷ 104 ∷ 111 ∷ 119 ∷ [])

-- `store`
abbrev pub STORE : ℕ
STORE = key_text (115 ∷ 116 ∷ 111 ∷ 114 ∷ 101 ∷ [])

-- `kept`
abbrev pub KEPT : ℕ
KEPT = key_text (107 ∷ 101 ∷ 112 ∷ 116 ∷ [])

-- `pace`
abbrev pub PACE : ℕ
PACE = key_text (112 ∷ 97 ∷ 99 ∷ 101 ∷ [])

-- `pacer`
abbrev pub PACER : ℕ
PACER = key_text (112 ∷ 97 ∷ 99 ∷ 101 ∷ 114 ∷ [])

-- ---- "the values"

-- "`ID`, `CHANNEL`: 0 to 255", and "`C` is as `CHANNEL`, `E` as `EXPIRY`, `L` as `LEN`"
abbrev pub HIGHEST-ID : ℕ
HIGHEST-ID = 255

-- "`FIRST`, a sequence or a window: 0 to 4294967295"
abbrev pub HIGHEST-SEQUENCE : ℕ
HIGHEST-SEQUENCE = 2 ^ 32 - 1

-- "`MASK`: 0 to 255"
abbrev pub HIGHEST-MASK : ℕ
HIGHEST-MASK = 255

-- "`NOW`, `EXPIRY`, `HELLO`, `LIMIT`: 0 to 18446744073709551615"
abbrev pub LATEST-TIME : ℕ
LATEST-TIME = 2 ^ 64 - 1

-- "`ROOM`, `STORE`, `LEN`: 0 to 4194304", all stores that an endpoint takes
abbrev pub MOST-ROOM : ℕ
MOST-ROOM = MOST-CHANNELS * LARGEST-STORE

-- "Up to 80 channels are read", and of a list too: "Each `N` is 0 to 80"
abbrev pub MOST-SETTINGS : ℕ
MOST-SETTINGS = 80

-- no line says more numbers: `ID COUNT`, four for each channel, `memory LEN`, `pace HELLO LIMIT` and `codes MASK`
abbrev pub PLACES : ℕ
PLACES = 329

-- the words of the configuration of as many channels
abbrev pub CONFIGURATION-WORDS : ℕ
CONFIGURATION-WORDS = configuration_length MOST-SETTINGS

-- ---- the table
-- `read END ID HEX`, `echo END ID HEX END2 ROOM`
abbrev pub ABOUT-MESSAGES : List ℕ
ABOUT-MESSAGES =
    command READ (IPS ∷ RADIO ∷ NUMBER ∷ HIGHEST-ID ∷ BYTES ∷ 0 ∷ [])
    ++ command ECHO (IPS ∷ RADIO ∷ NUMBER ∷ HIGHEST-ID ∷ BYTES ∷ 0 ∷ IPS ∷ RADIO ∷ NUMBER ∷ MOST-ROOM ∷ [])

-- `start ID COUNT`, `CHANNEL KIND FIRST STORE` for each channel, and perhaps `memory LEN`, `pace HELLO LIMIT`, `codes MASK`;
-- `offer CHANNEL NOW EXPIRY HEX`; `offers NOW channels N C.. expiries N E.. lengths N L.. answers N HEX`; `next CHANNEL NOW ROOM`; `withdraw CHANNEL`; `radio NOW HEX`; `pace NOW`; `query ROOM`; `show CHANNEL`; `store CHANNEL`; `kept`; `pacer`
abbrev pub ABOUT-A-STATE : List ℕ
ABOUT-A-STATE =
    command START
    (NUMBER ∷ HIGHEST-ID ∷ NUMBER ∷ MOST-SETTINGS
    ∷ LIST ∷ 4 ∷ NUMBER ∷ HIGHEST-ID ∷ PLAIN ∷ FLOW ∷ NUMBER ∷ HIGHEST-SEQUENCE ∷ NUMBER ∷ MOST-ROOM
    ∷ OPTIONAL ∷ MEMORY ∷ LIST ∷ 1 ∷ NUMBER ∷ MOST-ROOM
    ∷ OPTIONAL ∷ PACE ∷ LIST ∷ 2 ∷ NUMBER ∷ LATEST-TIME ∷ NUMBER ∷ LATEST-TIME
    ∷ OPTIONAL ∷ CODES ∷ LIST ∷ 1 ∷ NUMBER ∷ HIGHEST-MASK ∷ [])
    ++ command OFFER (NUMBER ∷ HIGHEST-ID ∷ NUMBER ∷ LATEST-TIME ∷ NUMBER ∷ LATEST-TIME ∷ BYTES ∷ 0 ∷ [])
    ++ command OFFERS
    (NUMBER ∷ LATEST-TIME
    ∷ CHANNELS ∷ CHANNELS ∷ NUMBER ∷ MOST-SETTINGS ∷ LIST ∷ 1 ∷ NUMBER ∷ HIGHEST-ID
    ∷ EXPIRIES ∷ EXPIRIES ∷ NUMBER ∷ MOST-SETTINGS ∷ LIST ∷ 1 ∷ NUMBER ∷ LATEST-TIME
    ∷ LENGTHS ∷ LENGTHS ∷ NUMBER ∷ MOST-SETTINGS ∷ LIST ∷ 1 ∷ NUMBER ∷ MOST-ROOM
    ∷ ANSWERS ∷ ANSWERS ∷ NUMBER ∷ MOST-SETTINGS ∷ BYTES ∷ 0 ∷ [])
    ++ command NEXT (NUMBER ∷ HIGHEST-ID ∷ NUMBER ∷ LATEST-TIME ∷ NUMBER ∷ MOST-ROOM ∷ [])
    ++ command WITHDRAW (NUMBER ∷ HIGHEST-ID ∷ [])
    ++ command RADIO (NUMBER ∷ LATEST-TIME ∷ BYTES ∷ 0 ∷ [])
    ++ command PACE (NUMBER ∷ LATEST-TIME ∷ [])
    ++ command QUERY (NUMBER ∷ MOST-ROOM ∷ [])
    ++ command SHOW (NUMBER ∷ HIGHEST-ID ∷ [])
    ++ command STORE (NUMBER ∷ HIGHEST-ID ∷ [])
    ++ command KEPT []
    ++ command PACER []

abbrev pub COMMANDS : List ℕ
COMMANDS = ABOUT-MESSAGES ++ ABOUT-A-STATE

-- ---- what the numbers of a command ask for, by their places; a byte string has a place too, with its length

-- "`END`: `ips` or `radio`"
unfoldable pub end_of : ℕ → End
end_of n = cond (eqb n 0) End.Ips End.Radio

unfoldable pub asked_by : ℕ → (ℕ → ℕ) → Asked
asked_by key n =
    cond (eqb key READ) (Asked.Read (end_of (n 0)) (n 1))
    (cond (eqb key ECHO) (Asked.Echo (end_of (n 0)) (n 1) (end_of (n 3)) (n 4))
    (cond (eqb key START) Asked.Start
    (cond (eqb key OFFER) (Asked.State (Command.Offer (n 0) (n 1) (n 2)))
    (cond (eqb key OFFERS) (Asked.State (Command.Offers (n SAID-TIME) (counts_from n)))
    (cond (eqb key NEXT) (Asked.State (Command.Next (n 0) (n 1) (n 2)))
    (cond (eqb key WITHDRAW) (Asked.State (Command.Withdraw (n 0)))
    (cond (eqb key RADIO) (Asked.State (Command.Radio (n 0)))
    (cond (eqb key PACE) (Asked.State (Command.Pace (n 0)))
    (cond (eqb key QUERY) (Asked.State (Command.Query (n 0)))
    (cond (eqb key SHOW) (Asked.State (Command.Show (n 0)))
    (cond (eqb key STORE) (Asked.State (Command.Store (n 0)))
    (cond (eqb key KEPT) (Asked.State Command.Kept)
    (cond (eqb key PACER) (Asked.State Command.Pacer)
    Asked.Bad)))))))))))))

-- what the numbers of a `start` are; nothing for another line
unfoldable pub start_by : ℕ → (ℕ → ℕ) → StartWords
start_by key n = cond (eqb key START) (start_from n) no_start

-- the words that a line says: the configuration of a `start`, the three lists of an `offers`; none for another line
unfoldable pub words_by : ℕ → (ℕ → ℕ) → List ℕ
words_by key n = cond (eqb key START) (configuration_from n) (cond (eqb key OFFERS) (lists_from n) [])

abbrev pub numbers_in : List ℕ → ℕ → ℕ
numbers_in numbers = λ i. get_or numbers i 0

-- ---- a line, with room for n bytes
abbrev pub said_by : ℕ → List ℕ → Said
said_by size line = said_in PLACES size COMMANDS (shortened line)

abbrev pub key_by : ℕ → List ℕ → ℕ
key_by size line = key_in PLACES size COMMANDS (shortened line)

unfoldable pub asked_of : ℕ → List ℕ → Asked
asked_of size line = asked_by (key_by size line) (numbers_in (said_by size line).numbers)

unfoldable pub start_of : ℕ → List ℕ → StartWords
start_of size line = start_by (key_by size line) (numbers_in (said_by size line).numbers)

unfoldable pub words_of : ℕ → List ℕ → List ℕ
words_of size line = words_by (key_by size line) (numbers_in (said_by size line).numbers)

-- what a line asks for; the words that it says stand at the start of the lent words, with zeros behind them, and the bytes at the start of the lent memory, which
-- is as it was behind them
pub record Asks (lent line : List ℕ) (r : Line) (words' lent' : List ℕ) : Type 0 where
  pub asked : r.asked ≡ asked_of (length lent) line
  pub count : r.bytes ≡ length (said_by (length lent) line).bytes
  pub start : r.start ≡ start_of (length lent) line
  pub words : words' ≡ over (words_of (length lent) line) (replicate CONFIGURATION-WORDS 0)
  pub bytes : lent' ≡ over (said_by (length lent) line).bytes lent

-- the numbers of a command are within their bounds
pub record Bounded (key : ℕ) (numbers : List ℕ) : Type 0 where
  pub within : Within (written_out 0 0 (row_of_key key COMMANDS) (numbers_in numbers)) (numbers_in numbers)

pub record StartFits (n : ℕ → ℕ) : Type 0 where
  pub few : n SAID-COUNT ≤ MOST-SETTINGS
  pub each : (index : ℕ) → index < n SAID-COUNT → store_said n index ≤ MOST-ROOM

pub record OffersFit (n : ℕ → ℕ) : Type 0 where
  pub channels : channel_count n ≤ MOST-SETTINGS
  pub expiries : expiry_count n ≤ MOST-SETTINGS
  pub lengths : length_count n ≤ MOST-SETTINGS
