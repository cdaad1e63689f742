-- The counts by name: what each counts of a record, and of all records of a capture, said without the places and the order in which they are counted.
use Rattle.std.specs.Prelude.{Bool, true, false, cond, List, [], ◌∷◌, ℕ, zero, suc, ◌+◌, ◌*◌, ◌≤◌, eqb, get_or, Option, Some, None}
use Rattle.quantity.specs.declared.count.DatalinkId.{DatalinkId}
use Rattle.meaning.specs.declared.message.End.{End}
use Rattle.meaning.specs.declared.message.Window.{Window}
use Rattle.records.specs.Files.{Report, kept}
use Rattle.records.specs.Files as files
use Rattle.ethernet.specs.declared.Ports.{Ports}
use Rattle.census.specs.Adding.{add_all}
use Rattle.census.specs.Outcomes.{refused, control, carried, astray, Outcome, skipped, message, outcome_of}
use Rattle.census.specs.Places.{RECORDS, SKIPPED, REFUSALS, PACKETS, BYTES, WINDOWS, end_place, adds_of}

-- ---- of a record

-- 1 where something holds, 0 where not
abbrev pub one : Bool → ℕ
one b = cond b 1 0

abbrev pub is_skipped : Outcome → Bool
is_skipped skipped = true
is_skipped (message end reading) = false

abbrev pub same_end : End → End → Bool
same_end End.Ips End.Ips = true
same_end End.Ips End.Radio = false
same_end End.Radio End.Ips = false
same_end End.Radio End.Radio = true

abbrev pub is_of : End → Outcome → Bool
is_of end skipped = false
is_of end (message other reading) = same_end end other

abbrev pub is_refused : ℕ → Outcome → Bool
is_refused number skipped = false
is_refused number (message end (refused given)) = eqb given number
is_refused number (message end (control stated)) = false
is_refused number (message end (carried channel size)) = false
is_refused number (message end astray) = false

-- a message that the reader accepts
abbrev pub is_accepted : Outcome → Bool
is_accepted skipped = false
is_accepted (message end (refused given)) = false
is_accepted (message end (control stated)) = true
is_accepted (message end (carried channel size)) = true
is_accepted (message end astray) = false

-- an accepted data message of a channel
abbrev pub is_packet : ℕ → Outcome → Bool
is_packet channel skipped = false
is_packet channel (message end (refused given)) = false
is_packet channel (message end (control stated)) = false
is_packet channel (message end (carried own size)) = eqb own channel
is_packet channel (message end astray) = false

-- the bytes of its packet
abbrev pub packet_bytes : ℕ → Outcome → ℕ
packet_bytes channel skipped = 0
packet_bytes channel (message end (refused given)) = 0
packet_bytes channel (message end (control stated)) = 0
packet_bytes channel (message end (carried own size)) = cond (eqb own channel) size 0
packet_bytes channel (message end astray) = 0

abbrev pub is_given : Option Window → Bool
is_given None = false
is_given (Some Window.Empty) = false
is_given (Some (Window.Given window)) = true

abbrev pub window_in : ℕ → List (Option Window) → Option Window
window_in channel cells = (get_or cells channel None)

-- an accepted radio control message with a window for a channel
abbrev pub is_grant : ℕ → Outcome → Bool
is_grant channel skipped = false
is_grant channel (message end (refused given)) = false
is_grant channel (message End.Ips (control stated)) = false
is_grant channel (message End.Radio (control stated)) = is_given (window_in channel stated.windows)
is_grant channel (message end (carried own size)) = false
is_grant channel (message end astray) = false

-- ---- the counts

pub data Count : Type 0 where
  all : Count
  skips : Count
  messages : End → Count
  refusals : ℕ → Count
  packets : ℕ → Count
  bytes : ℕ → Count
  windows : ℕ → Count

-- where it stands
abbrev pub place_of : Count → ℕ
place_of all = RECORDS
place_of skips = SKIPPED
place_of (messages end) = end_place end
place_of (refusals number) = REFUSALS + number
place_of (packets channel) = PACKETS + 3 * channel
place_of (bytes channel) = BYTES + 3 * channel
place_of (windows channel) = WINDOWS + 3 * channel

-- what it counts of a record
abbrev pub amount_of : Count → Outcome → ℕ
amount_of all outcome = 1
amount_of skips outcome = one (is_skipped outcome)
amount_of (messages end) outcome = one (is_of end outcome)
amount_of (refusals number) outcome = one (is_refused number outcome)
amount_of (packets channel) outcome = one (is_packet channel outcome)
amount_of (bytes channel) outcome = packet_bytes channel outcome
amount_of (windows channel) outcome = one (is_grant channel outcome)

-- the refusals that are counted: 1 to 11
abbrev pub Counted : Count → Type 0
Counted all = Unit {0}
Counted skips = Unit {0}
Counted (messages end) = Unit {0}
Counted (refusals number) = (1 ≤ number) × (number ≤ 11)
Counted (packets channel) = channel ≤ 254
Counted (bytes channel) = channel ≤ 254
Counted (windows channel) = channel ≤ 254

-- ---- of all records

-- what the records of a capture come to, in order
unfoldable pub outcomes_of : Ports → DatalinkId → List Report → List Outcome
outcomes_of ports id [] = []
outcomes_of ports id (kept original frame ∷ reports) = outcome_of ports id original frame ∷ outcomes_of ports id reports
outcomes_of ports id (files.refused number ∷ reports) = outcomes_of ports id reports

-- those that have a property
abbrev pub having : (Outcome → Bool) → List Outcome → List Outcome
having p [] = []
having p (outcome ∷ outcomes) = cond (p outcome) (outcome ∷ having p outcomes) (having p outcomes)

-- the sum of what they amount to: of a property, how many have it (`how_many`)
unfoldable pub total_of : (Outcome → ℕ) → List Outcome → ℕ
total_of f [] = 0
total_of f (outcome ∷ outcomes) = f outcome + total_of f outcomes

-- all refusals from 1 up to a number
abbrev pub refused_up_to : ℕ → List Outcome → ℕ
refused_up_to zero outcomes = 0
refused_up_to (suc number) outcomes = refused_up_to number outcomes + total_of (amount_of (refusals (suc number))) outcomes

-- the counts behind all records, by what `count` leaves for each
unfoldable pub count_all : List Outcome → List ℕ → List ℕ
count_all [] counts = counts
count_all (outcome ∷ outcomes) counts = count_all outcomes (add_all (adds_of outcome) counts)
