-- Demand 3: "Every packet taken in is, at each moment, exactly one of sent, expired, withdrawn or waiting, and those sent on a channel leave in the order they
-- came." "While a window is in force no packet goes past it."
use Rattle.std.specs.Prelude.{ℕ, ◌+◌, ◌<◌, ◌≤◌, List, [], ◌∷◌, ◌++◌, map, ◌≡◌, length, None}
use Rattle.store.specs.Packets.{Packet}
use Rattle.ips_channel_rules.specs.Rules.{offer, next, withdraw, taken, Tried, nothing_waiting, not_operational, window_shut, sent, emptied, refused, answered, Event, call, radio, Happened, called, heard}
use Rattle.ips_channel_rules.specs.Simple as simples
use Rattle.ips_channel_rules.specs.Simple.{Fate, Entry, is_sent, is_waiting, having}

-- ---- what the caller saw

-- the packet of an offer, if it was taken
abbrev pub took_by : Happened → List Packet
took_by (called c (refused number)) = []
took_by (called (offer packet time) (answered taken)) = packet ∷ []
took_by (called (next time out) (answered says)) = []
took_by (called withdraw (answered emptied)) = []
took_by (heard status window) = []

-- "Every packet taken in", in the order they came
abbrev pub taken_in : List Happened → List Packet
taken_in [] = []
taken_in (h ∷ hs) = took_by h ++ taken_in hs

-- the packet that Next says was sent
abbrev pub sent_by : Tried → List (List ℕ)
sent_by nothing_waiting = []
sent_by not_operational = []
sent_by window_shut = []
sent_by (sent bytes sequence) = bytes ∷ []

-- the packet of a call, if one was sent
abbrev pub handed_by : Happened → List (List ℕ)
handed_by (called c (refused number)) = []
handed_by (called (offer packet time) (answered taken)) = []
handed_by (called (next time out) (answered says)) = sent_by says
handed_by (called withdraw (answered emptied)) = []
handed_by (heard status window) = []

-- the packets handed over, in the order of the calls
abbrev pub handed_over : List Happened → List (List ℕ)
handed_over [] = []
handed_over (h ∷ hs) = handed_by h ++ handed_over hs

abbrev pub bytes_over : List (List ℕ) → ℕ
bytes_over [] = 0
bytes_over (p ∷ ps) = length p + bytes_over ps

-- ---- the account

-- a packet that waits is not due at the time, one that expired was; the others may be either
abbrev pub fairly : ℕ → ℕ → Fate → Type 0
fairly latest expiry simples.waits = latest < expiry
fairly latest expiry simples.expired = expiry ≤ latest
fairly latest expiry simples.sent = Unit {0}
fairly latest expiry simples.withdrawn = Unit {0}

abbrev pub Fair : ℕ → List Entry → Type 0
Fair latest [] = Unit {0}
Fair latest (e ∷ es) = fairly latest e.packet.expiry e.fate × Fair latest es

-- a ledger of the packets taken in, in the order they came, each with one fate: those sent are the packets handed over, in that order, byte for byte; those that
-- wait are the packets that wait
pub record Account (took : List Packet) (handed : List (List ℕ)) (waiting : List Packet) (latest : ℕ) : Type 0 where
  pub ledger : List Entry
  pub of_taken : map (λ (e : Entry). e.packet) ledger ≡ took
  pub of_sent : map (λ (p : Packet). p.bytes) (having is_sent ledger) ≡ handed
  pub of_waiting : having is_waiting ledger ≡ waiting
  pub of_time : Fair latest ledger

-- a later ledger: a packet that waited may have got its fate, a fate once given stays, packets may have come
pub data Later : List Entry → List Entry → Type 0 where
  new : {es : List Entry} → Later [] es
  same : {e : Entry} {es fs : List Entry} → Later es fs → Later (e ∷ es) (e ∷ fs)
  settled : {p : Packet} {fate : Fate} {es fs : List Entry} → Later es fs → Later (record { packet = p; fate = simples.waits } ∷ es) (record { packet = p; fate = fate } ∷ fs)

-- ---- between two radio messages
abbrev pub is_call : Event → Type 0
is_call (call c) = Unit {0}
is_call (radio status window) = ⊥

abbrev pub NoRadio : List Event → Type 0
NoRadio [] = Unit {0}
NoRadio (e ∷ es) = is_call e × NoRadio es

-- ---- from a silence to the next radio message that names the channel: its calls, and what leaves it not reported
abbrev pub is_quiet : Event → Type 0
is_quiet (call c) = Unit {0}
is_quiet (radio status window) = status ≡ None

abbrev pub Quiet : List Event → Type 0
Quiet [] = Unit {0}
Quiet (e ∷ es) = is_quiet e × Quiet es
