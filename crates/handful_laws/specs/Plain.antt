-- Document 02, §5, "Offers by the handful", once more in literal numbers and plain facts: which packet stands where in the buffer, and what each refusal is given for.
use Rattle.quantity.specs.declared.refusal.Refusal.{Refusal}
use Rattle.std.specs.Prelude.{ℕ, zero, suc, ◌+◌, ◌≤◌, ◌<◌, true, false, ◌↔◌, ◌⊎◌, ◌≡◌, length, get_or, take, drop, Result, Ok, Err}
use mathlib.Core.List.{List, [], ◌++◌, foldr}
use Rattle.facts.specs.Tables.{tabulate}
use Rattle.ips_channel_rules.specs.Rules.{offer}
use Rattle.ips_channel_calls.specs.Calls.{offered}
use Rattle.ips_state.specs.Memory.{world_fits}
use Rattle.ips_run.specs.Run.{Call, on}
use Rattle.ips_calls.specs.Replies.{EndpointReply, of_channel}
use Rattle.endpoint.specs.Lent.{Lent, world_in}
use Rattle.handful.specs.Handful.{Handful, Offer}

-- ---- "end to end in one buffer, with a length for each"

-- the sum of some lengths, which no width bounds
abbrev pub summed : List ℕ → ℕ
summed lengths = foldr (λ (n rest : ℕ). n + rest) 0 lengths

-- the packet at an index: behind all those before it, as many bytes as its length says
abbrev pub packet_at : Handful → ℕ → List ℕ
packet_at h i = take (get_or h.lengths i 0) (drop (summed (take i h.lengths)) h.packets)

-- "with their channels and expiries, one time for all": the call that it stands for
abbrev pub call_at : Handful → ℕ → Call
call_at h i = on (get_or h.channels i 0) (offer (record { bytes = packet_at h i; expiry = get_or h.expiries i 0 }) h.time)

-- and all of them, in their order
abbrev pub offers_in : Handful → List Call
offers_in h = tabulate (length h.channels) (call_at h)

-- some packets joined again
abbrev pub rejoined : List Offer → List ℕ
rejoined offers = foldr (λ (o : Offer) (rest : List ℕ). o.packet.bytes ++ rest) [] offers

-- ---- "an answer for each": 0, or a refusal's number; the numbers that an offer is refused by are 12 to 17, and 19
pub data Said : ℕ → Result (Unit {0}) Refusal → Type 0 where
  says_taken : Said 0 (Ok tt)
  says_number : (n : ℕ) → 12 ≤ n → n ≤ 17 → Said n (Err (record { number = n; place = 0 }))
  says_nineteen : Said 19 (Err (record { number = 19; place = 0 }))

-- so a byte says a single offer's reply
abbrev pub said_by : ℕ → EndpointReply
said_by zero = of_channel (offered (Ok tt))
said_by (suc n) = of_channel (offered (Err (record { number = suc n; place = 0 })))

-- ---- "24 for more than 32, for lists (answers too) of unequal count, or for lengths whose sum isn't the buffer's length"
pub data Faulty (h : Handful) (answers : ℕ) : Type 0 where
  more_than_32 : 32 < length h.channels → Faulty h answers
  expiries_differ : (length h.expiries ≡ length h.channels → ⊥) → Faulty h answers
  lengths_differ : (length h.lengths ≡ length h.channels → ⊥) → Faulty h answers
  answers_differ : (answers ≡ length h.channels → ⊥) → Faulty h answers
  sum_differs : (summed h.lengths ≡ length h.packets → ⊥) → Faulty h answers

-- where there is no such fault
pub record Proper (h : Handful) (answers : ℕ) : Type 0 where
  pub few : length h.channels ≤ 32
  pub expiries_count : length h.expiries ≡ length h.channels
  pub lengths_count : length h.lengths ≡ length h.channels
  pub answers_count : answers ≡ length h.channels
  pub whole : summed h.lengths ≡ length h.packets

-- "24 .., right after 19": each answer is given exactly when, and there is no other
pub record HandedExactly (h : Handful) (l : Lent) (answers : ℕ) (x : Result (Unit {0}) Refusal) : Type 0 where
  pub nineteen : (x ≡ Err (record { number = 19; place = 0 })) ↔ (world_fits (world_in l) ≡ false)
  pub twenty_four : (x ≡ Err (record { number = 24; place = 0 })) ↔ ((world_fits (world_in l) ≡ true) × Faulty h answers)
  pub otherwise : (x ≡ Ok tt) ↔ ((world_fits (world_in l) ≡ true) × (Faulty h answers → ⊥))
  pub no_other : (x ≡ Err (record { number = 19; place = 0 })) ⊎ ((x ≡ Err (record { number = 24; place = 0 })) ⊎ (x ≡ Ok tt))
