-- Document 02, §5, "Offers by the handful": "up to 32 packets at once, end to end in one buffer, with a length for each .. with their channels and expiries, one
-- time for all", and "an answer for each. Answers, stores and state equal those of offering one by one in that order, refused ones included."
use Rattle.quantity.specs.declared.refusal.Refusal.{Refusal}
use Rattle.std.specs.Prelude.{ℕ, ◌+◌, Bool, cond, ◌&&◌, List, [], ◌∷◌, map, ◌≡◌, eqb, leb, length, take, drop, Result, Ok, Err}
use Rattle.quantity.specs.Limits.{MOST-AT-ONCE}
use Rattle.quantity.specs.Refusals.{OUTSIDE-LIMITS, NOT-A-HANDFUL}
use Rattle.store.specs.Packets.{Packet, packet_for}
use Rattle.ips_channel_rules.specs.Rules.{offer}
use Rattle.ips_channel_calls.specs.Calls.{offer_answer, number_of}
use Rattle.ips_state.specs.Memory.{World, world_fits}
use Rattle.ips_run.specs.Calling.{calling}
use Rattle.ips_run.specs.Run.{Call, on}
use Rattle.endpoint.specs.Lent.{Lent, world_in, after_in}

-- what is delivered
pub record Handful : Type 0 where
  pub channels : List ℕ
  pub expiries : List ℕ
  pub lengths : List ℕ
  pub packets : List ℕ
  pub time : ℕ

-- ---- "end to end in one buffer, with a length for each": one packet of it for its channel, with its expiry
pub record Offer : Type 0 where
  pub id : ℕ
  pub packet : Packet

abbrev pub offer_for : (id expiry : ℕ) (bytes : List ℕ) → Offer
offer_for id expiry bytes = record { id = id; packet = packet_for bytes expiry }

-- each takes as many bytes as its length says, and the next one begins behind them
unfoldable pub cut : (channels expiries lengths packets : List ℕ) → List Offer
cut [] expiries lengths packets = []
cut (id ∷ channels) [] lengths packets = []
cut (id ∷ channels) (expiry ∷ expiries) [] packets = []
cut (id ∷ channels) (expiry ∷ expiries) (n ∷ lengths) packets = offer_for id expiry (take n packets) ∷ cut channels expiries lengths (drop n packets)

abbrev pub offers_of : Handful → List Offer
offers_of h = cut h.channels h.expiries h.lengths h.packets

-- ---- "offering one by one in that order": each is an Offer of document 01 on the state and the memory as the one before left them
abbrev pub call_of : (time : ℕ) → Offer → Call
call_of time o = on o.id (offer o.packet time)

abbrev pub answer_to : (time : ℕ) → Offer → World → Result (Unit {0}) Refusal
answer_to time o w = offer_answer (calling o.id (offer o.packet time) w).answer

abbrev pub answers_to : (time : ℕ) → List Offer → Lent → List (Result (Unit {0}) Refusal)
answers_to time [] l = []
answers_to time (o ∷ os) l = answer_to time o (world_in l) ∷ answers_to time os (after_in (call_of time o) l)

abbrev pub left_by : (time : ℕ) → List Offer → Lent → Lent
left_by time [] l = l
left_by time (o ∷ os) l = left_by time os (after_in (call_of time o) l)

-- ---- "Refusals: 24 for more than 32, for lists (answers too) of unequal count, or for lengths whose sum isn't the buffer's length"
unfoldable pub sum_of : List ℕ → ℕ
sum_of [] = 0
sum_of (n ∷ ns) = n + sum_of ns

unfoldable pub is_handful : Handful → (answers : ℕ) → Bool
is_handful h answers =
    leb (length h.channels) MOST-AT-ONCE
    && (eqb (length h.expiries) (length h.channels)
    && (eqb (length h.lengths) (length h.channels) && (eqb answers (length h.channels) && eqb (sum_of h.lengths) (length h.packets))))

abbrev pub refused_handful : ℕ → Result (Unit {0}) Refusal
refused_handful number = Err (record { number = number; place = 0 })

-- "right after 19"
abbrev pub handful_answer : Handful → (answers : ℕ) → World → Result (Unit {0}) Refusal
handful_answer h answers w = cond (world_fits w) (cond (is_handful h answers) (Ok tt) (refused_handful NOT-A-HANDFUL)) (refused_handful OUTSIDE-LIMITS)

-- the offers that it stands for: "with nothing taken" where it is refused
abbrev pub stands_for : Handful → (answers : ℕ) → World → List Offer
stands_for h answers w = cond (world_fits w && is_handful h answers) (offers_of h) []

-- "an answer for each", a byte: the lent answers afterwards; refused as a whole, every byte of them as it was
abbrev pub answers_after : Handful → Lent → (answers : List ℕ) → List ℕ
answers_after h l answers = cond (world_fits (world_in l) && is_handful h (length answers)) (map number_of (answers_to h.time (offers_of h) l)) answers

-- THE CONTRACT OF A HANDFUL
pub record HandedIn (h : Handful) (l : Lent) (answers : List ℕ) (x : Result (Unit {0}) Refusal) (l' : Lent) (answers' : List ℕ) : Type 0 where
  pub answer_is : x ≡ handful_answer h (length answers) (world_in l)
  pub lent_is : l' ≡ left_by h.time (stands_for h (length answers) (world_in l)) l
  pub answers_are : answers' ≡ answers_after h l answers
