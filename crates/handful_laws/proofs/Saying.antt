-- "An answer for each": what each byte says, and that it says the whole answer of the single offer. Assumes nothing.
use Rattle.std.specs.Prelude.{Result, Ok, Err}
use Prim.Native.Nat.{ℕ, zero, suc, ◌≤◌, ◌<◌}
use mathlib.Core.Bool.{true}
use mathlib.Core.Logic.{◌⊎◌, inl, inr}
use mathlib.Core.Path.{◌≡◌, refl, sym, ap, ◌∙◌}
use native.Mathlib.Omega.{arith}
use borrow.Author.Tests.{ne_eqb}
use lib.Dec.{eqb-suc-zero}
use Rattle.facts.proofs.Tests.{clash}
use Rattle.quantity.specs.declared.refusal.Refusal.{Refusal}
use Rattle.store.specs.Packets.{Packet}
use Rattle.ips_channel_rules.specs.Rules.{offer, Taken, taken, Answer, refused, answered, Terms, Condition, AfterCall}
use Rattle.ips_channel_rules.specs.Machine.{machine}
use Rattle.ips_channel_rules.specs.Exactly.{Offered, offered_not_ipv6, offered_long, offered_early, offered_past, offered_full, offered_taken}
use Rattle.ips_channel_rules.proofs.Exact as rules
use Rattle.ips_channel_calls.specs.Calls.{offer_answer, offered, number_of, answer_of}
use Rattle.ips_state.specs.Memory.{World, world_fits, index_in}
use Rattle.ips_run.specs.Calling.{terms_in, condition_in, WorldResult, Judged, outside, unknown, served}
use Rattle.ips_run.proofs.Exact.{judged, exactly_nineteen}
use Rattle.ips_calls.specs.Replies.{of_channel}
use Rattle.handful.specs.Handful.{Offer, answer_to}
use Rattle.handful_laws.specs.Plain.{Said, says_taken, says_number, says_nineteen, said_by}

-- ---- the bytes in literal numbers
pub byte_rows : (answer_of 0 ≡ Ok tt)
    × (answer_of 12 ≡ Err (record { number = 12; place = 0 })) × (answer_of 13 ≡ Err (record { number = 13; place = 0 }))
    × (answer_of 14 ≡ Err (record { number = 14; place = 0 })) × (answer_of 15 ≡ Err (record { number = 15; place = 0 }))
    × (answer_of 16 ≡ Err (record { number = 16; place = 0 })) × (answer_of 17 ≡ Err (record { number = 17; place = 0 }))
unfolding answer_of
byte_rows = (refl, refl, refl, refl, refl, refl, refl)

-- every byte says one reply, by its number alone
pub said_is : (byte : ℕ) → said_by byte ≡ of_channel (offered (answer_of byte))
unfolding answer_of
said_is zero = refl
said_is (suc n) = rw (eqb-suc-zero n)

-- ---- the answer of an offer, and the byte that it is told by
offered_said : (k : Terms) (p : Packet) (time : ℕ) (st : Condition machine) {r : AfterCall machine Taken} → Offered machine k p time st r
    → Said (number_of (offer_answer r.answer)) (offer_answer r.answer)
offered_said k p time st (offered_not_ipv6 v) = says_number 13 (omega arith) (omega arith)
offered_said k p time st (offered_long v l) = says_number 14 (omega arith) (omega arith)
offered_said k p time st (offered_early v l t) = says_number 15 (omega arith) (omega arith)
offered_said k p time st (offered_past v l t x) = says_number 16 (omega arith) (omega arith)
offered_said k p time st (offered_full v l t x f) = says_number 17 (omega arith) (omega arith)
offered_said k p time st (offered_taken v l t x f) = says_taken

module _ (time : ℕ) (o : Offer) (w : World) where
  by_judged : {r : WorldResult Taken} → Judged o.id (offer o.packet time) w r → Said (number_of (offer_answer r.answer)) (offer_answer r.answer)
  by_judged (outside f) = says_nineteen
  by_judged (unknown f g) = says_number 12 (omega arith) (omega arith)
  by_judged (served f g) =
      let index = index_in w o.id in
      offered_said (terms_in w index) o.packet time (condition_in w index) (rules.offered machine (terms_in w index) o.packet time (condition_in w index))

  -- "0 where it is taken, else its number of refusal": 12 to 17, or 19
  pub byte_said : Said (number_of (answer_to time o w)) (answer_to time o w)
  byte_said = by_judged (judged o.id (offer o.packet time) w)

  -- so it fits a byte
  pub byte_small : number_of (answer_to time o w) < 256
  byte_small = go byte_said
    where
      go : {n : ℕ} {a : Result (Unit {0}) Refusal} → Said n a → n < 256
      go says_taken = omega arith
      go (says_number n low high) = omega arith
      go says_nineteen = omega arith

said_so : {n : ℕ} {a : Result (Unit {0}) Refusal} → Said n a → answer_of n ≡ a
unfolding answer_of
said_so says_taken = refl
said_so (says_number n low high) = rw (ne_eqb n 0 (λ e. omega arith))
said_so says_nineteen = refl

-- THE BYTE SAYS THE ANSWER, number and place
pub numbers_say_lem : (time : ℕ) (o : Offer) (w : World) → answer_of (number_of (answer_to time o w)) ≡ answer_to time o w
numbers_say_lem time o w = said_so (byte_said time o w)

-- ---- on words that 19 lets pass: 0, or 12 to 17
told_nineteen : (a : Answer Taken) → offer_answer a ≡ Err (record { number = 19; place = 0 }) → a ≡ refused 19
told_nineteen (refused n) e = let same : ◌≡◌ {A = Refusal} (record { number = n; place = 0 }) (record { number = 19; place = 0 }) = cc in ap (λ (r : Refusal). refused r.number) same
told_nineteen (answered taken) e = clash (cc)

module _ (time : ℕ) (o : Offer) (w : World) (fits : world_fits w ≡ true) where
  pub byte_fitting : (number_of (answer_to time o w) ≡ 0) ⊎ ((12 ≤ number_of (answer_to time o w)) × (number_of (answer_to time o w) ≤ 17))
  byte_fitting = go (byte_said time o w) (λ e. clash (sym ((exactly_nineteen o.id (offer o.packet time) w).0 (told_nineteen _ e)) ∙ fits))
    where
      go : {n : ℕ} {a : Result (Unit {0}) Refusal} → Said n a → (a ≡ Err (record { number = 19; place = 0 }) → ⊥) → (n ≡ 0) ⊎ ((12 ≤ n) × (n ≤ 17))
      go says_taken never = inl refl
      go (says_number n low high) never = inr (low, high)
      go says_nineteen never = absurd (never refl)
