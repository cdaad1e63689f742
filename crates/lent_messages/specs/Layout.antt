-- Where each word of a message stands: the constants of src/layout.rt under their names, with `-` for `_`.
use Rattle.std.specs.Prelude.{ℕ, ◌+◌, ◌*◌, ◌^◌}
use Rattle.quantity.specs.Limits.{CHANNEL-IDS}

-- tags: of what may be stated or not; and of a Flow Window, without the field or with it
abbrev pub ABSENT : ℕ
ABSENT = 0

abbrev pub GIVEN : ℕ
GIVEN = 1

abbrev pub FIELD-EMPTY : ℕ
FIELD-EMPTY = 1

abbrev pub FIELD-GIVEN : ℕ
FIELD-GIVEN = 2

-- a control message's first words
abbrev pub DATALINK-TAG : ℕ
DATALINK-TAG = 0

abbrev pub DATALINK-VALUE : ℕ
DATALINK-VALUE = 1

abbrev pub INSTANCE-TAG : ℕ
INSTANCE-TAG = 2

abbrev pub INSTANCE-VALUE : ℕ
INSTANCE-VALUE = 3

abbrev pub INSTANCE-LENGTH : ℕ
INSTANCE-LENGTH = 4

abbrev pub CONTEXT-TAG : ℕ
CONTEXT-TAG = 5

abbrev pub CONTEXT-VALUE : ℕ
CONTEXT-VALUE = 6

abbrev pub CONTEXT-LENGTH : ℕ
CONTEXT-LENGTH = 7

abbrev pub CONTROL-HEAD : ℕ
CONTROL-HEAD = 8

-- the words of each Channel ID, behind them
abbrev pub STATUS-TAG : ℕ
STATUS-TAG = 0

abbrev pub STATUS-VALUE : ℕ
STATUS-VALUE = 1

abbrev pub SEQUENCE-TAG : ℕ
SEQUENCE-TAG = 2

abbrev pub SEQUENCE-VALUE : ℕ
SEQUENCE-VALUE = 3

abbrev pub WINDOW-TAG : ℕ
WINDOW-TAG = 4

abbrev pub WINDOW-VALUE : ℕ
WINDOW-VALUE = 5

abbrev pub CHANNEL-WORDS : ℕ
CHANNEL-WORDS = 6

abbrev pub CONTROL-WORDS : ℕ
CONTROL-WORDS = CONTROL-HEAD + CHANNEL-WORDS * CHANNEL-IDS

-- a data message's words, behind those of its Datalink ID
abbrev pub COUNTED-TAG : ℕ
COUNTED-TAG = 2

abbrev pub COUNTED-CHANNEL : ℕ
COUNTED-CHANNEL = 3

abbrev pub COUNTED-SEQUENCE : ℕ
COUNTED-SEQUENCE = 4

abbrev pub CHANNEL-TAG : ℕ
CHANNEL-TAG = 5

abbrev pub CHANNEL-VALUE : ℕ
CHANNEL-VALUE = 6

abbrev pub EXPIRATION-TAG : ℕ
EXPIRATION-TAG = 7

abbrev pub EXPIRATION-VALUE : ℕ
EXPIRATION-VALUE = 8

abbrev pub PACKET-START : ℕ
PACKET-START = 9

abbrev pub PACKET-LENGTH : ℕ
PACKET-LENGTH = 10

abbrev pub DATA-WORDS : ℕ
DATA-WORDS = 11

-- what a byte and a word of 32 bits stay below
abbrev pub BYTE : ℕ
BYTE = 2 ^ 8

abbrev pub HALF : ℕ
HALF = 2 ^ 32
