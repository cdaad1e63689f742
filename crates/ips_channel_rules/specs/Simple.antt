-- THE SIMPLE CHANNEL: the rules of `Rules` over a count that never wraps, and over a ledger of every packet ever taken in, in the order they came, each with what
-- became of it. So "exactly one of sent, expired, withdrawn or waiting" holds by what an entry of the ledger is.
use Rattle.std.specs.Prelude.{ℕ, ◌+◌, Bool, true, false, cond, List, [], ◌∷◌, ◌++◌, map, ℤ, pos, Option, Some, None}
use Rattle.std.specs.Int.Signed.{le_z}
use Rattle.quantity.specs.declared.count.FlowSequence.{FlowSequence}
use Rattle.quantity.specs.Window.{sequence_at, standing_at}
use Rattle.meaning.specs.declared.message.Window.{Window}
use Rattle.store.specs.Packets.{Packet, lasts_at, is_full}
use Rattle.ips_channel_rules.specs.Rules.{ChannelParts, Condition, longest_on}

-- ---- counting

-- a window in force is the number that it stands for, which "may lie below zero"
pub data Limit : Type 0 where
  free none : Limit
  up_to : ℤ → Limit

pub record Counter : Type 0 where
  pub count : ℕ
  pub limit : Limit

-- "no packet goes past it"
abbrev pub fits_below : ℕ → Limit → ℕ → Bool
fits_below count free n = true
fits_below count none n = false
fits_below count (up_to number) n = le_z (pos (count + n)) number

-- "The count that never wraps .. grows by n where the sequence does"
abbrev pub count_on : ℕ → Limit → ℕ → ℕ
count_on count free n = count
count_on count none n = count
count_on count (up_to number) n = count + n

-- the message carries the count's low 32 bits
abbrev pub carried_at : ℕ → Limit → Option FlowSequence
carried_at count free = None
carried_at count none = None
carried_at count (up_to number) = Some (sequence_at count)

-- "the number a window stands for is fixed when the window arrives"
abbrev pub limit_at : ℕ → Option Window → Limit
limit_at count None = free
limit_at count (Some Window.Empty) = none
limit_at count (Some (Window.Given window)) = up_to (standing_at count window)

-- ---- keeping packets
pub data Fate : Type 0 where
  waits sent expired withdrawn : Fate

pub record Entry : Type 0 where
  pub packet : Packet
  pub fate : Fate

abbrev pub is_waiting : Fate → Bool
is_waiting waits = true
is_waiting sent = false
is_waiting expired = false
is_waiting withdrawn = false

abbrev pub is_sent : Fate → Bool
is_sent waits = false
is_sent sent = true
is_sent expired = false
is_sent withdrawn = false

-- the packets of a ledger whose fate is so, in the order they came
abbrev pub having : (Fate → Bool) → List Entry → List Packet
having test [] = []
having test (e ∷ es) = cond (test e.fate) (e.packet ∷ having test es) (having test es)

-- a packet that waits gets a fate; one that has its fate keeps it
abbrev pub fate_becomes : Fate → Fate → Fate
fate_becomes new waits = new
fate_becomes new sent = sent
fate_becomes new expired = expired
fate_becomes new withdrawn = withdrawn

abbrev pub become : (Packet → Fate) → Entry → Entry
become new e = record { packet = e.packet; fate = fate_becomes (new e.packet) e.fate }

-- "every packet of that channel whose expiry is at or before the time given is expired, wherever it waits"
abbrev pub due : ℕ → Packet → Fate
due time p = cond (lasts_at time p.expiry) waits expired

-- the first that waits is sent
abbrev pub send_or : Fate → Packet → (rest sent_rest : List Entry) → List Entry
send_or waits p rest sent_rest = record { packet = p; fate = sent } ∷ rest
send_or sent p rest sent_rest = record { packet = p; fate = sent } ∷ sent_rest
send_or expired p rest sent_rest = record { packet = p; fate = expired } ∷ sent_rest
send_or withdrawn p rest sent_rest = record { packet = p; fate = withdrawn } ∷ sent_rest

abbrev pub send_first : List Entry → List Entry
send_first [] = []
send_first (e ∷ es) = send_or e.fate e.packet es (send_first es)

-- ---- the parts, and a fresh start
abbrev pub simple : ChannelParts
simple =
    record {
      Counting = Counter;
      Keeping = List Entry;
      fits = λ x bytes. fits_below x.count x.limit bytes.0;
      grow = λ bytes x. record { count = count_on x.count x.limit bytes.0; limit = x.limit };
      carried = λ x. carried_at x.count x.limit;
      hear = λ window x. record { count = x.count; limit = limit_at x.count window };
      waiting = having is_waiting;
      expire = λ time. map (become (due time));
      join = λ p ledger. ledger ++ (record { packet = p; fate = waits } ∷ []);
      send = send_first;
      clear = map (become (λ p. withdrawn));
      longest = longest_on;
      full = λ k ledger p. is_full k.size (having is_waiting ledger) p;
    }

-- "Plain channels are always free. Fresh flow-controlled channels have no window."; the count "starts as the configured first sequence"
abbrev pub fresh_simple : Bool → FlowSequence → Condition simple
fresh_simple controlled first = record { counting = record { count = first.0; limit = cond controlled none free }; keeping = []; status = None; latest = 0 }
