-- Document 01, "Numbers of refusal": the constants of src/refusal.rt under their names, with `-` for `_`, each "given exactly when" its line says.
use Rattle.std.specs.Prelude.{ℕ}

-- datagram over 65,507 bytes
abbrev pub LONG-DATAGRAM : ℕ
LONG-DATAGRAM = 1

-- header cut short (the empty datagram too) or not allowed by 3.1
abbrev pub HEADER : ℕ
HEADER = 2

-- an option runs past the end, or its frame does
abbrev pub CUT : ℕ
CUT = 3

-- its length isn't one listed for its type
abbrev pub LENGTH : ℕ
LENGTH = 4

-- its Channel ID is 255, or section 3.3 gives no meaning to its value
abbrev pub VALUE : ℕ
VALUE = 5

-- a known option that this plane and direction doesn't list, or an unknown one that section 3.2 orders to be refused
abbrev pub UNLISTED : ℕ
UNLISTED = 6

-- repeated where at most one may stand
abbrev pub REPEATED : ℕ
REPEATED = 7

-- an option after Packet Data
abbrev pub BEHIND-PACKET : ℕ
BEHIND-PACKET = 8

-- a required option is missing
abbrev pub MISSING : ℕ
MISSING = 9

-- Flow Sequence in a data message without Channel Identifier, or of another channel
abbrev pub UNPAIRED : ℕ
UNPAIRED = 10

-- Datalink ID isn't the configured one
abbrev pub OTHER-DATALINK : ℕ
OTHER-DATALINK = 11

-- channel not configured
abbrev pub NO-CHANNEL : ℕ
NO-CHANNEL = 12

-- packet isn't IPv6: under 40 bytes, version not 6, or length not 40 plus its Payload Length
abbrev pub NOT-IPV6 : ℕ
NOT-IPV6 = 13

-- packet over the smaller of 9,000 bytes and the store's length (document 02; over 1,500 bytes in document 01)
abbrev pub LONG-PACKET : ℕ
LONG-PACKET = 14

-- time before this channel's latest
abbrev pub EARLIER-TIME : ℕ
EARLIER-TIME = 15

-- expiry not after the time given
abbrev pub EXPIRY-PAST : ℕ
EXPIRY-PAST = 16

-- 32 packets wait, or waiting bytes plus this packet exceed the store
abbrev pub FULL : ℕ
FULL = 17

-- there is a message to write, and the output is shorter than it or it is over 65,507 bytes
abbrev pub NO-ROOM : ℕ
NO-ROOM = 18

-- configuration; in any call that takes them, a state or a lent memory outside the limits (the paper lists which)
abbrev pub OUTSIDE-LIMITS : ℕ
OUTSIDE-LIMITS = 19

-- a meaning to be written that the lists, or section 3's lengths and values, don't allow (a number too big for its length too)
abbrev pub NOT-WRITABLE : ℕ
NOT-WRITABLE = 20

-- document 02, §1: pacer time earlier than its latest
abbrev pub EARLIER-PACE : ℕ
EARLIER-PACE = 21

-- document 02, §1: HelloTime or silence limit of 0
abbrev pub NO-WAIT : ℕ
NO-WAIT = 22

-- document 02, §3: watermark or throughput above 2^31 - 1
abbrev pub LARGE-ALLOWANCE : ℕ
LARGE-ALLOWANCE = 23

-- document 02, §5: "more than 32", "lists (answers too) of unequal count", "lengths whose sum isn't the buffer's length"
abbrev pub NOT-A-HANDFUL : ℕ
NOT-A-HANDFUL = 24

-- document 02, §9: bad file header or another link type
abbrev pub FILE-HEAD : ℕ
FILE-HEAD = 25

-- document 02, §9: record cut off or over 65,536 bytes
abbrev pub RECORD : ℕ
RECORD = 26
