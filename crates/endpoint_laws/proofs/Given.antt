-- Each answer of Offer, Next and Withdraw, as they should be on a state, is given if and only if its facts hold, the numbers 12 to 19 among them. Assumes nothing.
use Rattle.std.specs.Prelude.{Result, Ok, Err}
use Rattle.quantity.specs.declared.refusal.Refusal.{Refusal}
use Prim.Native.Nat.{ℕ, ◌+◌, ◌%◌, ◌≤◌, ◌<◌}
use mathlib.Core.Bool.{Bool, true, false, and-eq-true_iff}
use mathlib.Core.List.{List, [], ◌∷◌}
use mathlib.Core.Logic.{◌↔◌, ◌⊎◌, inl, inr}
use mathlib.Core.Path.{◌≡◌, refl, sym, ap, subst, ◌∙◌}
use borrow.Author.Tests.{eqb-true, eq-eqb, ltb-true, ltb-false}
use lib.Dec.{ltb}
use lib.IntN.{ℤ, pos}
use lib.Signed.{◌≤ℤ◌}
use lib.ListN.{length}
use Rattle.facts.proofs.Tests.{clash, neither}
use Rattle.quantity.specs.declared.count.FlowWindow.{FlowWindow}
use Rattle.meaning.specs.StatusKinds.{MaySend}
use Rattle.meaning.proofs.StatusKinds.{operational_exactly}
use Rattle.writer.specs.Written.{no_room_of}
use Rattle.store.specs.Packets.{Packet}
use Rattle.flow.specs.declared.Flow.{Flow}
use Rattle.flow.specs.Counting.{may_go, sequence_on, carried_by}
use Rattle.ipv6.specs.FixedHeader.{FixedHeader}
use Rattle.ipv6.proofs.FixedHeader.{ipv6_exactly}
use Rattle.ips_channel_rules.specs.Rules.{ChannelCall, offer, next, withdraw, Taken, Tried, Emptied, Terms, longest_on, AfterCall, grown, message_bytes}
use Rattle.ips_channel_rules.specs.Machine.{machine}
use Rattle.ips_channel_rules.specs.Exactly.{Offered, offered_not_ipv6, offered_long, offered_early, offered_past, offered_full, offered_taken, Asked, asked_early, asked_nothing, asked_not_operational, asked_shut, asked_no_room, asked_sent}
use Rattle.ips_channel_rules.specs.FlowCases.{IsUnder, DistanceFrom}
use Rattle.ips_channel_rules.proofs.Exact as rules
use Rattle.ips_channel_rules.proofs.Exact.{withdraw_is}
use Rattle.ips_channel_rules.proofs.Limits.{machine_limited, short_both, place_empty}
use Rattle.ips_channel_rules.proofs.FlowCases.{free_words, shut_words, under_words, distance_exists}
use Rattle.ips_channel_rules.proofs.CallCases as cases
use Rattle.ips_channel_rules.proofs.CallCases.{false_unless, size_free, size_under}
use Rattle.ips_channel.specs.declared.state.Channel.{Channel}
use Rattle.ips_channel.specs.Channel.{condition_of}
use Rattle.ips_channel_calls.specs.declared.asking.NextAnswer.{NextAnswer}
use Rattle.ips_channel_calls.specs.Calls.{offered, asked, withdrawn, offer_answer, next_answer, withdraw_answer}
use Rattle.ips_state.specs.Limits.{sizes, state_fits}
use Rattle.ips_state.specs.Memory.{memory_fits, World, world_fits, is_configured, index_in, channel_in}
use Rattle.ips_state.proofs.Places.{found}
use Rattle.ips_state.proofs.WithinLimits.{within_fits, fits_within}
use Rattle.ips_run.specs.Calling.{terms_in, condition_in, WorldResult, at_channel, calling, Judged, outside, unknown, served}
use Rattle.ips_run.specs.Run.{on, after_under}
use Rattle.ips_run.proofs.Exact.{named, gives_configuration, gives_no_channel, serves_at, judged}
use Rattle.ips_run.proofs.Ordered.{in_order, order_fits, called_order}
use Rattle.ips_calls.specs.Replies.{EndpointReply, of_channel}
use Rattle.ips_calls.specs.Calls.{Performed}
use Rattle.ips_calls.specs.ReadBack.{SequenceWords}
use Rattle.endpoint_laws.specs.Given.{codes_in, Admitted, Configured, NotConfigured, not_due_in, numbered, NotLong, OfferGiven, offer_19, offer_12, offer_13, offer_14, offer_15, offer_16, offer_17, offer_taken, Goes, goes_free, goes_under, Shut, shut_none, shut_past, NextGiven, next_19, next_12, next_15, next_nothing, next_down, next_shut, next_18, next_sent, WithdrawGiven, withdraw_19, withdraw_12, withdraw_done}
use Rattle.ips_calls.proofs.Refused.{one_reply}

module _ (w : World) where
  -- ---- 19
  admitted_fits : Admitted w → world_fits w ≡ true
  unfolding memory_fits
  admitted_fits s = rw (within_fits w.state s.within, eq-eqb (length w.memory) (sizes w.state.channels) s.long)

  pub fits_admitted : world_fits w ≡ true → Admitted w
  unfolding memory_fits
  fits_admitted f =
      let parts = (and-eq-true_iff (state_fits w.state) (memory_fits w.state w.memory)).0 f in
      record { within = fits_within w.state parts.0; long = eqb-true _ _ parts.1 }

  unadmitted_fits : (Admitted w → ⊥) → world_fits w ≡ false
  unadmitted_fits not = false_unless _ (λ f. not (fits_admitted f))

  fits_unadmitted : world_fits w ≡ false → Admitted w → ⊥
  fits_unadmitted f s = clash (sym f ∙ admitted_fits s)

  -- ---- 12
  module _ (id : ℕ) where
    unnamed_unknown : NotConfigured w id → is_configured w id ≡ false
    unnamed_unknown not = false_unless _ (λ g. let there = found w.state id g in not (index_in w id) there.0 there.1)

    unknown_unnamed : world_fits w ≡ true → is_configured w id ≡ false → NotConfigured w id
    unknown_unnamed f g index inside is =
        let state_fits_lem = ((and-eq-true_iff (state_fits w.state) (memory_fits w.state w.memory)).0 f).0 in
        clash (sym g ∙ named w index id inside is)

    pub found_named : world_fits w ≡ true → is_configured w id ≡ true → Configured w id (index_in w id)
    found_named f g = let there = found w.state id g in record { admitted = fits_admitted f; inside = there.0; is = there.1 }

    named_serves : (c : ChannelCall) (index : ℕ) → Configured w id index → calling id c w ≡ at_channel c w index
    named_serves c index n = serves_at id c w (admitted_fits n.admitted) index n.inside n.is

    -- ---- Offer
    module _ (p : Packet) (time : ℕ) where
      not_long : (index : ℕ) → length p.bytes ≤ longest_on (terms_in w index) → NotLong w index p
      not_long index l = let both = short_both machine machine_limited (terms_in w index) (length p.bytes) l in record { longest = both.0; store = both.1 }

      offer_when : (index : ℕ) → Configured w id index → (r : AfterCall machine Taken) → Offered machine (terms_in w index) p time (condition_in w index) r → OfferGiven w id p time (offer_answer r.answer)
      unfolding condition_of
      offer_when index n _ (offered_not_ipv6 v) = offer_13 n (λ h. clash (sym v ∙ (ipv6_exactly p.bytes).1 h))
      offer_when index n _ (offered_long v l) = offer_14 n ((ipv6_exactly p.bytes).0 v) ((machine_limited.long (terms_in w index) _).0 l)
      offer_when index n _ (offered_early v l t) = offer_15 n ((ipv6_exactly p.bytes).0 v) (not_long index l) t
      offer_when index n _ (offered_past v l t x) = offer_16 n ((ipv6_exactly p.bytes).0 v) (not_long index l) t x
      offer_when index n _ (offered_full v l t x f) = offer_17 n ((ipv6_exactly p.bytes).0 v) (not_long index l) t x (machine_limited.full_only (terms_in w index) _ p f)
      offer_when index n _ (offered_taken v l t x f) =
          offer_taken n ((ipv6_exactly p.bytes).0 v) (not_long index l) t x (λ none. clash (sym f ∙ machine_limited.full_then (terms_in w index) _ p none))

      offer_judged : {r : WorldResult Taken} → Judged id (offer p time) w r → OfferGiven w id p time (offer_answer r.answer)
      offer_judged (outside f) = offer_19 (fits_unadmitted f)
      offer_judged (unknown f g) = offer_12 (fits_admitted f) (unknown_unnamed f g)
      offer_judged (served f g) = offer_when (index_in w id) (found_named f g) _ (rules.offered machine (terms_in w (index_in w id)) p time (condition_in w (index_in w id)))

      offer_then : {x : Result (Unit {0}) Refusal} → OfferGiven w id p time x → offer_answer (calling id (offer p time) w).answer ≡ x
      unfolding condition_of
      offer_then (offer_19 not) = rw (gives_configuration id (offer p time) w (unadmitted_fits not))
      offer_then (offer_12 s not) = rw (gives_no_channel id (offer p time) w (admitted_fits s) (unnamed_unknown not))
      offer_then (offer_13 {index} n h) =
          rw (named_serves (offer p time) index n, cases.offer_thirteen machine machine_limited (terms_in w index) p time (condition_in w index) h)
      offer_then (offer_14 {index} n h l) =
          rw (named_serves (offer p time) index n, cases.offer_fourteen machine machine_limited (terms_in w index) p time (condition_in w index) h l)
      offer_then (offer_15 {index} n h l t) =
          rw (named_serves (offer p time) index n, cases.offer_fifteen machine machine_limited (terms_in w index) p time (condition_in w index) h l.longest l.store t)
      offer_then (offer_16 {index} n h l t x) =
          rw (named_serves (offer p time) index n, cases.offer_sixteen machine machine_limited (terms_in w index) p time (condition_in w index) h l.longest l.store t x)
      offer_then (offer_17 {index} n h l t x none) =
          rw (named_serves (offer p time) index n, cases.offer_seventeen machine machine_limited (terms_in w index) p time (condition_in w index) h l.longest l.store t x none)
      offer_then (offer_taken {index} n h l t x place) =
          rw (named_serves (offer p time) index n, cases.offer_joins machine machine_limited (terms_in w index) p time (condition_in w index) h l.longest l.store t x place)

      -- what Offer answers
      pub offer_exactly : {answer : Result (Unit {0}) Refusal} {w' : World} → Performed (on id (offer p time)) w (of_channel (offered answer)) w' → (x : Result (Unit {0}) Refusal) → (answer ≡ x) ↔ OfferGiven w id p time x
      offer_exactly {answer} h x =
          let is : answer ≡ offer_answer (calling id (offer p time) w).answer = cc (one_reply h.reply_is) in
          (λ e. subst (OfferGiven w id p time) (sym is ∙ e) (offer_judged (judged id (offer p time) w)), λ g. is ∙ offer_then g)

      -- where every packet that waits is due, an offer that 12 to 16 pass is taken: 17 is never given there
      pub empty_taken : {answer : Result (Unit {0}) Refusal} {w' : World} → Performed (on id (offer p time)) w (of_channel (offered answer)) w' → {index : ℕ} → Configured w id index
          → FixedHeader p.bytes → NotLong w index p → (channel_in w index).latest ≤ time → time < p.expiry → not_due_in w index time ≡ [] → answer ≡ Ok tt
      unfolding condition_of
      empty_taken h {index} n header short t x none =
          (offer_exactly h (Ok tt)).1
          (offer_taken n header short t x (place_empty machine machine_limited (terms_in w index) p time (condition_in w index) none short.store))

    -- ---- Withdraw
    withdraw_judged : {r : WorldResult Emptied} → Judged id withdraw w r → WithdrawGiven w id (withdraw_answer r.answer)
    withdraw_judged (outside f) = withdraw_19 (fits_unadmitted f)
    withdraw_judged (unknown f g) = withdraw_12 (fits_admitted f) (unknown_unnamed f g)
    withdraw_judged (served f g) = rw (withdraw_is machine (terms_in w (index_in w id)) (condition_in w (index_in w id))) (withdraw_done (found_named f g))

    withdraw_then : {x : Result (Unit {0}) Refusal} → WithdrawGiven w id x → withdraw_answer (calling id withdraw w).answer ≡ x
    withdraw_then (withdraw_19 not) = rw (gives_configuration id withdraw w (unadmitted_fits not))
    withdraw_then (withdraw_12 s not) = rw (gives_no_channel id withdraw w (admitted_fits s) (unnamed_unknown not))
    withdraw_then (withdraw_done {index} n) = rw (named_serves withdraw index n, withdraw_is machine (terms_in w index) (condition_in w index))

    -- what Withdraw answers
    pub withdraw_exactly : {answer : Result (Unit {0}) Refusal} {w' : World} → Performed (on id withdraw) w (of_channel (withdrawn answer)) w' → (x : Result (Unit {0}) Refusal) → (answer ≡ x) ↔ WithdrawGiven w id x
    withdraw_exactly {answer} h x =
        let is : answer ≡ withdraw_answer (calling id withdraw w).answer = cc (one_reply h.reply_is) in
        (λ e. subst (WithdrawGiven w id) (sym is ∙ e) (withdraw_judged (judged id withdraw w)), λ g. is ∙ withdraw_then g)

-- ---- what a call leaves
-- "19 moves with the limits": no call on a channel makes a state that 19 refuses, an Offer of 9,000 bytes neither
pub call_admitted : {w w' : World} {id : ℕ} {c : ChannelCall} {x : EndpointReply} → Performed (on id c) w x w' → Admitted w → Admitted w'
unfolding after_under
call_admitted {w} {w'} {id} {c} h admitted =
    let order = called_order (length w.state.channels) w (in_order w (admitted_fits w admitted)) id c (judged id c w) in
    fits_admitted w' (ap (λ (u : World). world_fits u) h.world_is ∙ order_fits order)

-- ---- 18, and the length of Next's message
room_none : (size room : ℕ) → no_room_of size room ≡ true → (room < size) ⊎ (65507 < size)
room_none size room e = go (ltb room size) refl
  where
    go : (b : Bool) → ltb room size ≡ b → (room < size) ⊎ (65507 < size)
    go true s = inl (ltb-true room size s)
    go false s = inr (ltb-true 65507 size (rw s at e))

room_some : (size room : ℕ) → no_room_of size room ≡ false → (size ≤ room) × (size ≤ 65507)
room_some size room e = let n = neither (ltb room size) (ltb 65507 size) e in (ltb-false room size n.0, ltb-false 65507 size n.1)

-- a packet that fits, and the bytes of its message
record Going (c : Channel) (flow : Flow) (packet : List ℕ) : Type 0 where
  head : ℕ
  goes : Goes c (length packet) head
  long : (k : Terms) → length (message_bytes k (carried_by flow (sequence_on flow c.sequence (record { 0 = length packet }))) packet) ≡ head + length packet

module _ (c : Channel) (word : c.sequence.0 < 4294967296) (packet : List ℕ) where
  going : (flow : Flow) → c.flow ≡ flow → may_go flow c.sequence (record { 0 = length packet }) ≡ true → Going c flow packet
  going Flow.Free e may = record { head = 12; goes = goes_free e; long = λ k. size_free k packet }
  going Flow.NoWindow e may = clash may
  going (Flow.InForce window) e may =
      let far = distance_exists c.sequence.0 window.0 in
      record { head = 20; goes = goes_under e far.1 ((under_words c.sequence window (length packet) far.0 word far.1).goes.0 may); long = λ k. size_under k _ packet }

  shutting : (flow : Flow) → c.flow ≡ flow → may_go flow c.sequence (record { 0 = length packet }) ≡ false → Shut c (length packet)
  shutting Flow.Free e not = clash (sym not)
  shutting Flow.NoWindow e not = shut_none e
  shutting (Flow.InForce window) e not =
      let far = distance_exists c.sequence.0 window.0 in
      shut_past e far.1 (λ h. clash (sym not ∙ (under_words c.sequence window (length packet) far.0 word far.1).goes.1 h))

-- ---- Next
module _ (w : World) (words : SequenceWords w.state) (id time : ℕ) (out : List ℕ) where
  abbrev size : ℕ → List ℕ → ℕ
  size index packet = length (message_bytes (terms_in w index) (machine.carried (grown machine packet (condition_in w index))) packet)

  next_when : (index : ℕ) → Configured w id index → (r : AfterCall machine Tried) → Asked machine (terms_in w index) time (length out) (condition_in w index) r
      → NextGiven w id time (length out) (next_answer (terms_in w index) r.answer)
  unfolding condition_of
  next_when index n _ (asked_early t) = next_15 n t
  next_when index n _ (asked_nothing t e) = next_nothing n t e
  next_when index n _ (asked_not_operational t e o) = next_down n t e (λ up. clash (sym o ∙ (operational_exactly _ _).1 up))
  next_when index n _ (asked_shut {p} t e o f) = next_shut n t e ((operational_exactly _ _).0 o) (shutting (channel_in w index) (words index n.inside) p.bytes _ refl f)
  next_when index n _ (asked_no_room {p} t e o f r) =
      let g = going (channel_in w index) (words index n.inside) p.bytes _ refl f in
      let none = rw (g.long (terms_in w index)) at (room_none (size index p.bytes) (length out) r) in
      next_18 n t e ((operational_exactly _ _).0 o) g.goes none
  next_when index n _ (asked_sent {p} t e o f r) =
      let g = going (channel_in w index) (words index n.inside) p.bytes _ refl f in
      let room = rw (g.long (terms_in w index)) at (room_some (size index p.bytes) (length out) r) in
      rw (g.long (terms_in w index)) (next_sent n t e ((operational_exactly _ _).0 o) g.goes room.0 room.1)

  next_judged : {r : WorldResult Tried} → Judged id (next time out) w r → NextGiven w id time (length out) (next_answer (terms_in w (index_in w id)) r.answer)
  next_judged (outside f) = next_19 (fits_unadmitted w f)
  next_judged (unknown f g) = next_12 (fits_admitted w f) (unknown_unnamed w id f g)
  next_judged (served f g) = next_when (index_in w id) (found_named w id f g) _ (rules.asked machine (terms_in w (index_in w id)) time (length out) (condition_in w (index_in w id)))

  abbrev told : Result NextAnswer Refusal
  told = next_answer (terms_in w (index_in w id)) (calling id (next time out) w).answer

  module _ (index : ℕ) (n : Configured w id index) (t : (channel_in w index).latest ≤ time) (p : Packet) (ps : List Packet) (e : not_due_in w index time ≡ p ∷ ps)
      (up : MaySend (codes_in w) (channel_in w index).status) where
    under : (window : FlowWindow) (distance : ℤ) → (channel_in w index).flow ≡ Flow.InForce window → DistanceFrom (channel_in w index).sequence.0 window.0 distance
        → IsUnder machine (condition_in w index).counting (length p.bytes) (pos (length p.bytes) ≤ℤ distance)
        (record { flow = Flow.InForce window; sequence = record { 0 = ((channel_in w index).sequence.0 + length p.bytes) % 4294967296 } })
        (((channel_in w index).sequence.0 + length p.bytes) % 4294967296)
    unfolding condition_of
    under window distance force far = rw force (under_words (channel_in w index).sequence window (length p.bytes) distance (words index n.inside) far)

    shut_then : Shut (channel_in w index) (length p.bytes) → told ≡ Ok NextAnswer.WindowShut
    unfolding condition_of
    shut_then (shut_none none) =
        rw (named_serves w id (next time out) index n, cases.next_no_window machine (terms_in w index) time (length out) (condition_in w index) t p ps e up (rw none (shut_words _)))
    shut_then (shut_past {window} {distance} force far not) =
        rw (named_serves w id (next time out) index n, cases.next_past machine (terms_in w index) time (length out) (condition_in w index) t p ps e up _ _ _ (under window distance force far) not)

    eighteen_then : {head : ℕ} → Goes (channel_in w index) (length p.bytes) head → (length out < head + length p.bytes) ⊎ (65507 < head + length p.bytes) → told ≡ Err (numbered 18)
    unfolding condition_of
    eighteen_then (goes_free free) l =
        rw (named_serves w id (next time out) index n, cases.next_free_eighteen machine (terms_in w index) time (length out) (condition_in w index) t p ps e up (rw free (free_words _)) l)
    eighteen_then (goes_under {window} {distance} force far may) l =
        rw (named_serves w id (next time out) index n, cases.next_under_eighteen machine (terms_in w index) time (length out) (condition_in w index) t p ps e up _ _ _ (under window distance force far) may l)

    sent_then : {head : ℕ} → Goes (channel_in w index) (length p.bytes) head → head + length p.bytes ≤ length out → head + length p.bytes ≤ 65507
        → told ≡ Ok (NextAnswer.Sent (record { 0 = head + length p.bytes }))
    unfolding condition_of
    sent_then (goes_free free) l m =
        rw (
          named_serves w id (next time out) index n,
          cases.next_free machine (terms_in w index) time (length out) (condition_in w index) t p ps e up (rw free (free_words _)) l m,
          size_free (terms_in w (index_in w id)) p.bytes,
        )
    sent_then (goes_under {window} {distance} force far may) l m =
        rw (
          named_serves w id (next time out) index n,
          cases.next_under machine (terms_in w index) time (length out) (condition_in w index) t p ps e up _ _ _ (under window distance force far) may l m,
          size_under (terms_in w (index_in w id)) _ p.bytes,
        )

  next_then : {x : Result NextAnswer Refusal} → NextGiven w id time (length out) x → told ≡ x
  unfolding condition_of
  next_then (next_19 not) = rw (gives_configuration id (next time out) w (unadmitted_fits w not))
  next_then (next_12 s not) = rw (gives_no_channel id (next time out) w (admitted_fits w s) (unnamed_unknown w id not))
  next_then (next_15 {index} n t) = rw (named_serves w id (next time out) index n, cases.next_fifteen machine (terms_in w index) time (length out) (condition_in w index) t)
  next_then (next_nothing {index} n t e) = rw (named_serves w id (next time out) index n, cases.next_none_waits machine (terms_in w index) time (length out) (condition_in w index) t e)
  next_then (next_down {index} {p} {ps} n t e down) =
      rw (named_serves w id (next time out) index n, cases.next_down machine (terms_in w index) time (length out) (condition_in w index) t p ps e down)
  next_then (next_shut {index} {p} {ps} n t e up shut) = shut_then index n t p ps e up shut
  next_then (next_18 {index} {p} {ps} n t e up goes l) = eighteen_then index n t p ps e up goes l
  next_then (next_sent {index} {p} {ps} n t e up goes l m) = sent_then index n t p ps e up goes l m

  -- what Next answers
  pub next_exactly : {answer : Result NextAnswer Refusal} {out' : List ℕ} {w' : World} → Performed (on id (next time out)) w (of_channel (asked answer out')) w'
      → (x : Result NextAnswer Refusal) → (answer ≡ x) ↔ NextGiven w id time (length out) x
  next_exactly {answer} h x =
      let is : answer ≡ told = cc (one_reply h.reply_is) in
      (λ e. subst (NextGiven w id time (length out)) (sym is ∙ e) (next_judged (judged id (next time out) w)), λ g. is ∙ next_then g)
