-- Document 01, "What the endpoint covers", Limits, and document 02 where it moved them: the constants of src/limit.rt under their names, with `-` for `_`.
use Rattle.std.specs.Prelude.{ℕ}

-- "datagram up to 65,507 bytes"
abbrev pub LONGEST-DATAGRAM : ℕ
LONGEST-DATAGRAM = 65507

-- "1 to 16 configured channels"; document 02: "Raise channels to 64"
abbrev pub FEWEST-CHANNELS : ℕ
FEWEST-CHANNELS = 1

abbrev pub MOST-CHANNELS : ℕ
MOST-CHANNELS = 64

-- "packet offered 40 to 1,500 bytes"; document 02: "and packets to 9,000 bytes"
abbrev pub SHORTEST-PACKET : ℕ
SHORTEST-PACKET = 40

abbrev pub LONGEST-PACKET : ℕ
LONGEST-PACKET = 9000

-- "at most 32 packets waiting on a channel"
abbrev pub MOST-WAITING : ℕ
MOST-WAITING = 32

-- document 02, §5: "up to 32 packets at once"
abbrev pub MOST-AT-ONCE : ℕ
MOST-AT-ONCE = 32

-- "one store of 1,500 to 65,536 bytes for each channel"
abbrev pub SMALLEST-STORE : ℕ
SMALLEST-STORE = 1500

abbrev pub LARGEST-STORE : ℕ
LARGEST-STORE = 65536

-- "Channel ID 0 to 254; 255 is reserved"
abbrev pub RESERVED-CHANNEL : ℕ
RESERVED-CHANNEL = 255

-- the Channel IDs 0 to 254
abbrev pub CHANNEL-IDS : ℕ
CHANNEL-IDS = 255

-- "4-bit Status"
abbrev pub HIGHEST-STATUS : ℕ
HIGHEST-STATUS = 15

-- Link Instance and Datalink Context, Length: "1 to 8"
abbrev pub SHORTEST-NAME : ℕ
SHORTEST-NAME = 1

abbrev pub LONGEST-NAME : ℕ
LONGEST-NAME = 8

-- document 02, §3: "cut at 2^31 - 1", "watermark or throughput above 2^31 - 1"
abbrev pub MOST-ALLOWANCE : ℕ
MOST-ALLOWANCE = 2147483647

-- ---- the two limits that document 02 raised, as a parameter: so the limits before and those in force are two instances of one definition
pub record Limits : Type 0 where
  pub channels : ℕ
  pub packet : ℕ

abbrev pub CURRENT-LIMITS : Limits
CURRENT-LIMITS = record { channels = MOST-CHANNELS; packet = LONGEST-PACKET }
