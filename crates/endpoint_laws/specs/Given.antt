-- "Given exactly when": each answer of Offer, Next and Withdraw with all that holds when it is given, in plain facts of the state, the lent memory and the call.
-- "Calls on a state test 19 first. Then, offering a packet: 12, 13, 14, 15, 16, 17. Asking for the next: 12, 15, 18. Withdrawing: 12."
use Rattle.std.specs.Prelude.{ℕ, ◌+◌, ◌≤◌, ◌<◌, List, [], ◌∷◌, ◌⊎◌, ◌≡◌, ℤ, pos, ◌≤ℤ◌, length, Result, Ok, Err}
use Rattle.quantity.specs.declared.count.FlowWindow.{FlowWindow}
use Rattle.quantity.specs.declared.refusal.Refusal.{Refusal}
use Rattle.meaning.specs.StatusKinds.{MaySend}
use Rattle.store.specs.Packets.{Packet, alive}
use Rattle.store.specs.Waiting.{packets_of}
use Rattle.flow.specs.declared.Flow.{Flow}
use Rattle.ipv6.specs.FixedHeader.{FixedHeader}
use Rattle.ips_channel_rules.specs.Limits.{NoPlace}
use Rattle.ips_channel_rules.specs.FlowCases.{DistanceFrom}
use Rattle.ips_channel.specs.declared.state.Channel.{Channel}
use Rattle.ips_channel_calls.specs.declared.asking.NextAnswer.{NextAnswer}
use Rattle.pacer.specs.declared.PaceAnswer.{PaceAnswer}
use Rattle.ips_state.specs.State.{State}
use Rattle.ips_state.specs.Limits.{sizes}
use Rattle.ips_state.specs.WithinLimits.{WithinLimits}
use Rattle.ips_state.specs.Memory.{World, channel_in, store_in}

-- ---- 19 and 12

-- neither "a state outside these limits" nor "a lent memory whose length isn't the sum of the stores"
pub record Admitted (w : World) : Type 0 where
  pub within : WithinLimits w.state
  pub long : length w.memory ≡ sizes w.state.channels

-- the channel at an index of the configuration is that of the ID
pub record Configured (w : World) (id index : ℕ) : Type 0 where
  pub admitted : Admitted w
  pub inside : index < length w.state.channels
  pub is : (channel_in w index).setting.id ≡ id

-- "channel not configured"
abbrev pub NotConfigured : World → ℕ → Type 0
NotConfigured w id = (index : ℕ) → index < length w.state.channels → (channel_in w index).setting.id ≡ id → ⊥

-- the packets that wait on that channel and are not due at a time
abbrev pub not_due_in : World → ℕ → ℕ → List Packet
not_due_in w index time = alive time (packets_of (channel_in w index).queue (store_in w index))

-- place: "0 for all others"
abbrev pub numbered : ℕ → Refusal
numbered number = record { number = number; place = 0 }

-- ---- Offer

-- "14 is given above the smaller of 9,000 and the store's length": no longer than either
pub record NotLong (w : World) (index : ℕ) (p : Packet) : Type 0 where
  pub longest : length p.bytes ≤ 9000
  pub store : length p.bytes ≤ (channel_in w index).setting.size.0

pub data OfferGiven (w : World) (id : ℕ) (p : Packet) (time : ℕ) : Result (Unit {0}) Refusal → Type 0 where
  offer_19 : (Admitted w → ⊥) → OfferGiven w id p time (Err (numbered 19))
  offer_12 : Admitted w → NotConfigured w id → OfferGiven w id p time (Err (numbered 12))
  offer_13 : {index : ℕ} → Configured w id index → (FixedHeader p.bytes → ⊥) → OfferGiven w id p time (Err (numbered 13))
  offer_14 : {index : ℕ} → Configured w id index → FixedHeader p.bytes → (9000 < length p.bytes) ⊎ ((channel_in w index).setting.size.0 < length p.bytes)
      → OfferGiven w id p time (Err (numbered 14))
  offer_15 : {index : ℕ} → Configured w id index → FixedHeader p.bytes → NotLong w index p → time < (channel_in w index).latest
      → OfferGiven w id p time (Err (numbered 15))
  offer_16 : {index : ℕ} → Configured w id index → FixedHeader p.bytes → NotLong w index p → (channel_in w index).latest ≤ time → p.expiry ≤ time
      → OfferGiven w id p time (Err (numbered 16))
  offer_17 : {index : ℕ} → Configured w id index → FixedHeader p.bytes → NotLong w index p → (channel_in w index).latest ≤ time → time < p.expiry
      → NoPlace (channel_in w index).setting.size.0 (not_due_in w index time) p → OfferGiven w id p time (Err (numbered 17))
  offer_taken : {index : ℕ} → Configured w id index → FixedHeader p.bytes → NotLong w index p → (channel_in w index).latest ≤ time → time < p.expiry
      → (NoPlace (channel_in w index).setting.size.0 (not_due_in w index time) p → ⊥) → OfferGiven w id p time (Ok tt)

-- ---- Next

-- "the channel is free or the packet fits the window": a packet of n bytes may go, in a message with `head` bytes before it, a Flow Sequence among them or not
pub data Goes (c : Channel) (n : ℕ) : (head : ℕ) → Type 0 where
  goes_free : c.flow ≡ Flow.Free → Goes c n 12
  goes_under : {window : FlowWindow} {distance : ℤ} → c.flow ≡ Flow.InForce window → DistanceFrom c.sequence.0 window.0 distance → pos n ≤ℤ distance → Goes c n 20

-- "window shut"
pub data Shut (c : Channel) (n : ℕ) : Type 0 where
  shut_none : c.flow ≡ Flow.NoWindow → Shut c n
  shut_past : {window : FlowWindow} {distance : ℤ} → c.flow ≡ Flow.InForce window → DistanceFrom c.sequence.0 window.0 distance → (pos n ≤ℤ distance → ⊥) → Shut c n

-- "Whether a status is operational now depends on that setting": the datalink's, as its 8 bits
abbrev pub codes_in : World → ℕ
codes_in w = w.state.datalink.codes.0

pub data NextGiven (w : World) (id time room : ℕ) : Result NextAnswer Refusal → Type 0 where
  next_19 : (Admitted w → ⊥) → NextGiven w id time room (Err (numbered 19))
  next_12 : Admitted w → NotConfigured w id → NextGiven w id time room (Err (numbered 12))
  next_15 : {index : ℕ} → Configured w id index → time < (channel_in w index).latest → NextGiven w id time room (Err (numbered 15))
  next_nothing : {index : ℕ} → Configured w id index → (channel_in w index).latest ≤ time → not_due_in w index time ≡ [] → NextGiven w id time room (Ok NextAnswer.NothingWaiting)
  next_down : {index : ℕ} {p : Packet} {ps : List Packet} → Configured w id index → (channel_in w index).latest ≤ time → not_due_in w index time ≡ p ∷ ps
      → (MaySend (codes_in w) (channel_in w index).status → ⊥) → NextGiven w id time room (Ok NextAnswer.NotOperational)
  next_shut : {index : ℕ} {p : Packet} {ps : List Packet} → Configured w id index → (channel_in w index).latest ≤ time → not_due_in w index time ≡ p ∷ ps
      → MaySend (codes_in w) (channel_in w index).status → Shut (channel_in w index) (length p.bytes) → NextGiven w id time room (Ok NextAnswer.WindowShut)
  next_18 : {index head : ℕ} {p : Packet} {ps : List Packet} → Configured w id index → (channel_in w index).latest ≤ time → not_due_in w index time ≡ p ∷ ps
      → MaySend (codes_in w) (channel_in w index).status → Goes (channel_in w index) (length p.bytes) head
      → (room < head + length p.bytes) ⊎ (65507 < head + length p.bytes) → NextGiven w id time room (Err (numbered 18))
  next_sent : {index head : ℕ} {p : Packet} {ps : List Packet} → Configured w id index → (channel_in w index).latest ≤ time → not_due_in w index time ≡ p ∷ ps
      → MaySend (codes_in w) (channel_in w index).status → Goes (channel_in w index) (length p.bytes) head
      → head + length p.bytes ≤ room → head + length p.bytes ≤ 65507 → NextGiven w id time room (Ok (NextAnswer.Sent (record { 0 = head + length p.bytes })))

-- ---- Withdraw
pub data WithdrawGiven (w : World) (id : ℕ) : Result (Unit {0}) Refusal → Type 0 where
  withdraw_19 : (Admitted w → ⊥) → WithdrawGiven w id (Err (numbered 19))
  withdraw_12 : Admitted w → NotConfigured w id → WithdrawGiven w id (Err (numbered 12))
  withdraw_done : {index : ℕ} → Configured w id index → WithdrawGiven w id (Ok tt)

-- ---- the pacer asked: 19, then 21
pub data PaceGiven (s : State) (time : ℕ) : Result PaceAnswer Refusal → Type 0 where
  pace_19 : (WithinLimits s → ⊥) → PaceGiven s time (Err (numbered 19))
  pace_21 : WithinLimits s → time < s.pacer.clock → PaceGiven s time (Err (numbered 21))
  pace_quiet : WithinLimits s → s.pacer.clock ≤ time → time < s.pacer.due + s.pacer.hello → time < s.pacer.heard + s.pacer.limit → PaceGiven s time (Ok PaceAnswer.Quiet)
  pace_due : WithinLimits s → s.pacer.clock ≤ time → s.pacer.due + s.pacer.hello ≤ time → time < s.pacer.heard + s.pacer.limit → PaceGiven s time (Ok PaceAnswer.Due)
  pace_silent : WithinLimits s → s.pacer.clock ≤ time → time < s.pacer.due + s.pacer.hello → s.pacer.heard + s.pacer.limit ≤ time → PaceGiven s time (Ok PaceAnswer.Silent)
  pace_due_silent : WithinLimits s → s.pacer.clock ≤ time → s.pacer.due + s.pacer.hello ≤ time → s.pacer.heard + s.pacer.limit ≤ time
      → PaceGiven s time (Ok PaceAnswer.DueSilent)
