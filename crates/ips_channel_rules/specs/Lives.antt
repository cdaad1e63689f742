-- Document 01, "A channel's life", "Counting" and "Examples": short lives of one channel, as rows of one table: what was called and heard, with each answer.
use Rattle.std.specs.Prelude.{ℕ, ◌*◌, ◌-◌, ◌/◌, ◌%◌, Bool, true, false, List, [], ◌∷◌, ◌++◌, map, ◌≡◌, replicate, Option, Some, None}
use Rattle.quantity.specs.declared.count.FlowSequence.{FlowSequence}
use Rattle.quantity.specs.Limits.{LONGEST-PACKET}
use Rattle.meaning.specs.declared.message.Window.{Window}
use Rattle.ips_channel_rules.specs.Rules.{offer, next, withdraw, Taken, taken, Tried, nothing_waiting, not_operational, window_shut, sent, emptied, Answer, refused, answered, Event, call, radio, Happened, called, heard, Terms, ChannelParts, Condition, history}

-- ---- a row, and when it is right

-- the life of a fresh channel, with a store of 1,500 bytes or of this length, under the default or with this setting of the statuses 8 to 15; of a flow-controlled
-- one with its first sequence
pub data Life : Type 0 where
  plain : List Happened → Life
  plain_storing : (size : ℕ) → List Happened → Life
  plain_under : (codes : ℕ) → List Happened → Life
  controlled : (first : ℕ) → List Happened → Life

abbrev pub story : Life → List Happened
story (plain happened) = happened
story (plain_storing size happened) = happened
story (plain_under codes happened) = happened
story (controlled first happened) = happened

abbrev pub event_of : Happened → Event
event_of (called c answer) = call c
event_of (heard status window) = radio status window

-- with the longest packet of the limits in force, so that the rows with 9,000 and 9,001 bytes pin it
abbrev pub terms : Bool → (size codes : ℕ) → Terms
terms is_controlled size codes = record { datalink = record { 0 = 7 }; codes = record { 0 = codes }; id = 3; controlled = is_controlled; size = size; longest = LONGEST-PACKET }

-- the same events on a channel made of these parts, with the answers that the rules give
abbrev pub lived : (P : ChannelParts) → (Bool → FlowSequence → Condition P) → Life → List Happened
lived P fresh (plain happened) = history P (terms false 1500 0) (map event_of happened) (fresh false (record { 0 = 0 }))
lived P fresh (plain_storing size happened) = history P (terms false size 0) (map event_of happened) (fresh false (record { 0 = 0 }))
lived P fresh (plain_under codes happened) = history P (terms false 1500 codes) (map event_of happened) (fresh false (record { 0 = 0 }))
lived P fresh (controlled first happened) = history P (terms true 1500 0) (map event_of happened) (fresh true (record { 0 = first }))

-- the answers of every row are those that the rules give
abbrev pub AllRight : (P : ChannelParts) → (Bool → FlowSequence → Condition P) → List Life → Type 0
AllRight P fresh lives = map (lived P fresh) lives ≡ map story lives

-- ---- what happens in a row

-- bytes with the fixed header of this version and Payload Length, zeros otherwise
abbrev headed : (version payload size : ℕ) → List ℕ
headed version payload size = version * 16 ∷ 0 ∷ 0 ∷ 0 ∷ payload / 256 ∷ payload % 256 ∷ replicate (size - 6) 0

-- an IPv6 packet of n bytes
abbrev packet_of : ℕ → List ℕ
packet_of n = headed 6 (n - 40) n

abbrev offers : List ℕ → (expiry time : ℕ) → Answer Taken → Happened
offers bytes expiry time answer = called (offer (record { bytes = bytes; expiry = expiry }) time) answer

-- with an output of this length
abbrev asks : (time room : ℕ) → Answer Tried → Happened
asks time room answer = called (next time (replicate room 0)) answer

abbrev withdraws : Happened
withdraws = called withdraw (answered emptied)

abbrev states : ℕ → Option Window → Happened
states status window = heard (Some status) window

abbrev window : ℕ → Option Window
window number = Some (Window.Given (record { 0 = number }))

abbrev took : Answer Taken
took = answered taken

-- the packet of n bytes went, without a Flow Sequence or with this one
abbrev went : ℕ → Answer Tried
went n = answered (sent (packet_of n) None)

abbrev went_with : ℕ → ℕ → Answer Tried
went_with n sequence = answered (sent (packet_of n) (Some (record { 0 = sequence })))

abbrev nothing : Answer Tried
nothing = answered nothing_waiting

abbrev down : Answer Tried
down = answered not_operational

abbrev shut : Answer Tried
shut = answered window_shut

-- ---- the rows
abbrev pub table : List Life
table =
    -- a free channel sends, and its message carries no Flow Sequence; fresh, its status is not reported, and nothing waits
    plain
    (asks 0 100 nothing
    ∷ offers (packet_of 40) 100 0 took
    ∷ asks 0 100 down
    ∷ states 7 None
    ∷ asks 0 100 (went 40)
    ∷ asks 0 100 nothing
    ∷ [])
    -- "Plain channels are always free."
    ∷ plain
    (states 7 (window 0)
    ∷ offers (packet_of 40) 100 0 took
    ∷ asks 0 100 (went 40)
    ∷ states 7 (Some Window.Empty)
    ∷ offers (packet_of 40) 100 0 took
    ∷ asks 0 100 (went 40)
    ∷ [])
    -- "sequence 4294967000, window 500: .. 796 bytes fit and the sequence becomes 500", "797 don't"
    ∷ controlled 4294967000 (states 7 (window 500) ∷ offers (packet_of 796) 100 0 took ∷ asks 0 1000 (went_with 796 500) ∷ [])
    ∷ controlled 4294967000 (states 7 (window 500) ∷ offers (packet_of 797) 100 0 took ∷ asks 0 1000 shut ∷ [])
    -- "Sending under a window adds n to the sequence modulo 2^32, and the message carries the sum.": over the wrap up to the window, and not past it
    ∷ controlled 4294967196
    (states 7 (window 40)
    ∷ offers (packet_of 60) 100 0 took
    ∷ offers (packet_of 40) 100 0 took
    ∷ offers (packet_of 40) 100 0 took
    ∷ offers (packet_of 40) 100 0 took
    ∷ asks 0 100 (went_with 60 4294967256)
    ∷ asks 0 100 (went_with 40 0)
    ∷ asks 0 100 (went_with 40 40)
    ∷ asks 0 100 shut
    ∷ [])
    -- a distance of 2^31 - 1, of -2^31, of 0 and of -1
    ∷ controlled 100 (states 7 (window 2147483747) ∷ offers (packet_of 40) 100 0 took ∷ asks 0 100 (went_with 40 140) ∷ [])
    ∷ controlled 100 (states 7 (window 2147483748) ∷ offers (packet_of 40) 100 0 took ∷ asks 0 100 shut ∷ [])
    ∷ controlled 100 (states 7 (window 100) ∷ offers (packet_of 40) 100 0 took ∷ asks 0 100 shut ∷ states 7 (window 99) ∷ asks 0 100 shut ∷ [])
    -- "no Flow Window option makes it free", whatever was in force: it sends past the window, and its sequence stands still
    ∷ controlled 100
    (states 7 (window 139)
    ∷ offers (packet_of 40) 100 0 took
    ∷ offers (packet_of 40) 100 0 took
    ∷ asks 0 100 shut
    ∷ states 7 None
    ∷ asks 0 100 (went 40)
    ∷ states 7 (window 140)
    ∷ asks 0 100 (went_with 40 140)
    ∷ [])
    -- "one without a window leaves it with no window", whatever was in force
    ∷ controlled 100
    (states 7 (window 1000)
    ∷ offers (packet_of 40) 100 0 took
    ∷ states 7 (Some Window.Empty)
    ∷ asks 0 100 shut
    ∷ states 7 None
    ∷ states 7 (Some Window.Empty)
    ∷ asks 0 100 shut
    ∷ [])
    -- "one with a window puts that in force, smaller than before or not"
    ∷ controlled 100
    (states 7 (window 1000)
    ∷ offers (packet_of 40) 100 0 took
    ∷ states 7 (window 139)
    ∷ asks 0 100 shut
    ∷ states 7 (window 140)
    ∷ asks 0 100 (went_with 40 140)
    ∷ [])
    -- "Only the first waiting packet is tried.": a shorter one behind a stuck one stays
    ∷ controlled 0
    (states 7 (window 50)
    ∷ offers (packet_of 60) 100 0 took
    ∷ offers (packet_of 40) 100 0 took
    ∷ asks 0 100 shut
    ∷ asks 0 100 shut
    ∷ states 7 (window 100)
    ∷ asks 0 100 (went_with 60 60)
    ∷ asks 0 100 (went_with 40 100)
    ∷ [])
    -- "Status 0: not operational; 1 to 7: operational; 8 to 15: unknown, and not operational for us.", and "one that it doesn't name is not reported"
    ∷ plain
    (offers (packet_of 40) 100 0 took
    ∷ offers (packet_of 41) 100 0 took
    ∷ states 0 None
    ∷ asks 0 100 down
    ∷ states 1 None
    ∷ asks 0 100 (went 40)
    ∷ states 8 None
    ∷ asks 0 100 down
    ∷ states 15 None
    ∷ asks 0 100 down
    ∷ states 7 None
    ∷ heard None None
    ∷ asks 0 100 down
    ∷ states 7 None
    ∷ asks 0 100 (went 41)
    ∷ [])
    -- "a setting that says, for each of 8 to 15, operational or not": 2 makes 9 operational, and no other of them
    ∷ plain_under 2
    (offers (packet_of 40) 100 0 took
    ∷ states 8 None
    ∷ asks 0 100 down
    ∷ states 10 None
    ∷ asks 0 100 down
    ∷ states 14 None
    ∷ asks 0 100 down
    ∷ states 0 None
    ∷ asks 0 100 down
    ∷ states 9 None
    ∷ asks 0 100 (went 40)
    ∷ [])
    -- with 255 all of 8 to 15 are; still not one that is not reported, nor 0 or 16
    ∷ plain_under 255
    (offers (packet_of 40) 100 0 took
    ∷ offers (packet_of 41) 100 0 took
    ∷ asks 0 100 down
    ∷ states 0 None
    ∷ asks 0 100 down
    ∷ states 16 None
    ∷ asks 0 100 down
    ∷ states 8 None
    ∷ asks 0 100 (went 40)
    ∷ states 15 None
    ∷ asks 0 100 (went 41)
    ∷ [])
    -- "tried in this order: nothing waiting, not operational, window shut", and 18 after them
    ∷ controlled 0
    (states 0 (Some Window.Empty)
    ∷ asks 0 0 nothing
    ∷ offers (packet_of 40) 100 0 took
    ∷ asks 0 0 down
    ∷ states 1 (Some Window.Empty)
    ∷ asks 0 0 shut
    ∷ states 1 (window 40)
    ∷ asks 0 0 (refused 18)
    ∷ [])
    -- number 13: 39 bytes, versions next to 6, a Payload Length that isn't the rest's
    ∷ plain
    (offers (packet_of 39) 100 0 (refused 13)
    ∷ offers (headed 5 0 40) 100 0 (refused 13)
    ∷ offers (headed 7 0 40) 100 0 (refused 13)
    ∷ offers (headed 6 1 40) 100 0 (refused 13)
    ∷ offers (headed 6 0 41) 100 0 (refused 13)
    ∷ offers (packet_of 40) 100 0 took
    ∷ [])
    -- number 14: "above the smaller of 9,000 and the store's length, so long packets need a long store"
    ∷ plain_storing 65536 (offers (packet_of 9001) 100 0 (refused 14) ∷ offers (packet_of 9000) 100 0 took ∷ [])
    ∷ plain_storing 8999 (offers (packet_of 9000) 100 0 (refused 14) ∷ offers (packet_of 8999) 100 0 took ∷ [])
    ∷ plain (offers (packet_of 1501) 100 0 (refused 14) ∷ offers (packet_of 1500) 100 0 took ∷ [])
    -- number 15: "time before this channel's latest", which is that of the last accepted Offer or Next
    ∷ plain
    (offers (packet_of 40) 100 5 took
    ∷ offers (packet_of 40) 100 4 (refused 15)
    ∷ asks 4 100 (refused 15)
    ∷ asks 6 100 down
    ∷ offers (packet_of 40) 100 5 (refused 15)
    ∷ offers (packet_of 39) 100 7 (refused 13)
    ∷ offers (packet_of 40) 100 6 took
    ∷ [])
    -- number 16: "expiry not after the time given"
    ∷ plain (offers (packet_of 40) 5 5 (refused 16) ∷ offers (packet_of 40) 6 5 took ∷ [])
    -- number 17: "32 packets wait": the 32nd is taken, the 33rd isn't
    ∷ plain (replicate 32 (offers (packet_of 40) 100 0 took) ++ (offers (packet_of 40) 100 0 (refused 17) ∷ []))
    -- ".. or waiting bytes plus this packet exceed the store"; "Room of a departed packet is used again."
    ∷ plain
    (offers (packet_of 1400) 100 0 took
    ∷ offers (packet_of 60) 100 0 took
    ∷ offers (packet_of 41) 100 0 (refused 17)
    ∷ offers (packet_of 40) 100 0 took
    ∷ states 7 None
    ∷ asks 0 2000 (went 1400)
    ∷ offers (packet_of 1400) 100 0 took
    ∷ [])
    -- 17 "judged after that": one of 32 is due
    ∷ plain
    (offers (packet_of 40) 6 0 took
    ∷ replicate 31 (offers (packet_of 40) 100 0 took)
    ++ (offers (packet_of 40) 100 5 (refused 17) ∷ offers (packet_of 40) 100 6 took ∷ offers (packet_of 40) 100 6 (refused 17) ∷ []))
    -- "offering a packet: .. 13, 14, 15, 16, 17"
    ∷ plain_storing 10000
    (replicate 31 (offers (packet_of 40) 100 5 took)
    ++ (offers (headed 5 8961 9001) 4 4 (refused 13)
    ∷ offers (packet_of 9001) 4 4 (refused 14)
    ∷ offers (packet_of 9000) 4 4 (refused 15)
    ∷ offers (packet_of 9000) 5 5 (refused 16)
    ∷ offers (packet_of 9000) 6 5 (refused 17)
    ∷ []))
    -- a packet longer than the store is 14 and never 17, though 32 wait
    ∷ plain (replicate 32 (offers (packet_of 40) 100 0 took) ++ (offers (packet_of 1501) 100 0 (refused 14) ∷ offers (packet_of 40) 100 0 (refused 17) ∷ []))
    -- "every packet of that channel whose expiry is at or before the time given is expired, wherever it waits"
    ∷ plain
    (states 7 None
    ∷ offers (packet_of 40) 100 0 took
    ∷ offers (packet_of 41) 6 0 took
    ∷ offers (packet_of 42) 7 0 took
    ∷ asks 6 100 (went 40)
    ∷ asks 6 100 (went 42)
    ∷ asks 6 100 nothing
    ∷ [])
    ∷ plain (states 7 None ∷ offers (packet_of 40) 6 5 took ∷ asks 6 100 nothing ∷ [])
    -- 18: "if given, nothing has expired", and the time given is not the latest; asked again with room, the one that is due is gone
    ∷ plain
    (states 7 None
    ∷ offers (packet_of 40) 10 0 took
    ∷ offers (packet_of 41) 100 0 took
    ∷ asks 10 0 (refused 18)
    ∷ asks 9 100 (went 40)
    ∷ [])
    ∷ plain
    (states 7 None
    ∷ offers (packet_of 40) 10 0 took
    ∷ offers (packet_of 41) 100 0 took
    ∷ asks 10 0 (refused 18)
    ∷ asks 10 100 (went 41)
    ∷ asks 10 100 nothing
    ∷ [])
    -- 18: "the output is shorter than it": the options before the packet take 12 bytes with the header, 8 more with a Flow Sequence; 15 before 18
    ∷ controlled 0
    (offers (packet_of 40) 100 5 took
    ∷ offers (packet_of 40) 100 5 took
    ∷ states 7 None
    ∷ asks 4 0 (refused 15)
    ∷ asks 5 51 (refused 18)
    ∷ asks 5 52 (went 40)
    ∷ states 7 (window 40)
    ∷ asks 5 59 (refused 18)
    ∷ asks 5 60 (went_with 40 40)
    ∷ [])
    -- "Withdraw: all packets waiting on the channel are withdrawn."; then others are offered
    ∷ plain
    (states 7 None
    ∷ offers (packet_of 40) 100 5 took
    ∷ offers (packet_of 41) 100 5 took
    ∷ withdraws
    ∷ asks 5 100 nothing
    ∷ withdraws
    ∷ offers (packet_of 42) 100 4 (refused 15)
    ∷ offers (packet_of 42) 100 5 took
    ∷ asks 5 100 (went 42)
    ∷ [])
    ∷ []
