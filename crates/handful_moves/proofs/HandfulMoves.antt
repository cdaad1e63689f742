-- Of a handful each surviving byte of each store moves at most once: after a channel's first accepted offer nothing more is due there. Assumes nothing.
use Rattle.std.specs.Prelude.{Ok}
use Prim.Native.Nat.{ℕ, ◌+◌, ◌≤◌, ◌<◌}
use mathlib.Core.Bool.{Bool, true, false, cond}
use mathlib.Core.List.{List, [], ◌∷◌, ◌++◌, append_assoc, append-nil}
use mathlib.Core.Path.{◌≡◌, refl, sym, ap, ◌∙◌}
use native.Mathlib.Omega.{arith}
use borrow.Author.Tests.{eqb-true, eqb-false, eq-eqb, lt-ltb}
use lib.Dec.{eqb}
use lib.ListN.{length, take, length-append}
use lib.Seq.{take-append_seam, take-take}
use Rattle.facts.proofs.Tests.{clash}
use Rattle.quantity.specs.declared.count.ByteCount.{ByteCount}
use Rattle.store.specs.declared.queue.Queue.{Queue}
use Rattle.store.specs.Packets.{Packet, lasts_at, lasting, alive, joined}
use Rattle.store.specs.Moves.{Stretch, staying, displaced, expiring, unchanging}
use Rattle.store.specs.Waiting.{packets_of}
use Rattle.store.proofs.Held.{well_fit, joined_append}
use Rattle.store.proofs.Moved.{displaced_within, displaced_unchanging}
use Rattle.store_moves.specs.Moving.{Move, ToStart, Marked}
use Rattle.store_moves.proofs.Waiting.{marked_expiring, marked_unchanging, staying_marked, joined_start, remaining_kept, marked_least}
use Rattle.call_moves.specs.CallMoves.{joining_by}
use Rattle.ips_channel_rules.specs.Rules.{offer, Taken, taken, Answer, refused, answered, Terms, Condition, AfterCall}
use Rattle.ips_channel_rules.specs.Machine.{machine}
use Rattle.ips_channel_rules.specs.Exactly.{Offered, offered_not_ipv6, offered_long, offered_early, offered_past, offered_full, offered_taken}
use Rattle.ips_channel_rules.proofs.Exact.{offered}
use Rattle.ips_channel.specs.declared.state.Channel.{Channel}
use Rattle.ips_channel.specs.Channel.{condition_of}
use Rattle.ips_channel_calls.specs.Calls.{offer_answer, channel_after, store_after, leaving_by}
use Rattle.ips_channel_calls.proofs.Again as calls
use Rattle.ips_state.specs.Memory.{World, world_fits, is_configured, index_in, channel_in, store_in}
use Rattle.ips_state.proofs.Places.{found}
use Rattle.ips_run.specs.Calling.{terms_in, condition_in, result_in, WorldResult, putting_back, calling, Judged, outside, unknown, served}
use Rattle.ips_run.specs.Demand.{InOrder}
use Rattle.ips_run.proofs.Exact.{judged}
use Rattle.ips_run.proofs.Ordered.{in_order, order_fits}
use Rattle.ips_run.proofs.Serving.{ready, at_same, store_same, at_other, store_other}
use Rattle.endpoint.specs.Calls.{moved_at}
use Rattle.endpoint.specs.Lent.{Lent, world_in, after_in}
use Rattle.handful.specs.Handful.{Handful, Offer, call_of, answer_to, left_by, offers_of}
use Rattle.handful.specs.Offering.{moved_in, moved_by, Tested, OfferedEach}
use Rattle.handful.proofs.Offering.{after_is, after_order}
use Rattle.handful_moves.specs.HandfulMoves.{count_in, waiting_at, is_at, moved_there, moved_within, sum_below, joining_there, joining_within, leaving_for, stretches_within, LeavesWithin}
use Rattle.handful_moves.proofs.Sums.{sum_none, sum_both, sum_same, sum_most, sum_one}

-- ---- once an offer is taken, all that wait last at its time
module _ (time : ℕ) where
  abbrev AllLast : List Packet → Type 0
  AllLast ps = (alive time ps ≡ ps) × (expiring time ps ≡ unchanging ps)

  settled : (p : Packet) → lasts_at time p.expiry ≡ true → (ps : List Packet) → AllLast (alive time ps ++ (p ∷ []))
  unfolding lasting expiring unchanging
  settled p lasts [] = (rw lasts, rw lasts)
  settled p lasts (x ∷ ps) = each (lasts_at time x.expiry) refl (settled p lasts ps)
    where
      each : (b : Bool) → lasts_at time x.expiry ≡ b → AllLast (alive time ps ++ (p ∷ [])) → AllLast (cond b (x ∷ alive time ps) (alive time ps) ++ (p ∷ []))
      each true e h = (rw e (ap (λ (qs : List Packet). x ∷ qs) h.0), rw e (ap (λ (xs : List Stretch). record { length = length x.bytes; stays = true } ∷ xs) h.1))
      each false e h = h

-- ---- what one offer does to the packets that wait on a channel: nothing, or it is taken there
data Steps (time : ℕ) (p : Packet) : (waiting left joining : List Packet) (moved : ℕ) → Type 0 where
  stands : {ps : List Packet} → Steps time p ps ps [] 0
  joins : {ps : List Packet} → lasts_at time p.expiry ≡ true → Steps time p ps (alive time ps ++ (p ∷ [])) (p ∷ []) (displaced (expiring time ps))

module _ (time : ℕ) where
  -- by the rules
  by_offered : (k : Terms) (p : Packet) (c : Channel) (store : List ℕ) (r : AfterCall machine Taken) → Offered machine k p time (condition_of c store) r
      → Steps time p (packets_of c.queue store) r.condition.keeping (joining_by (offer p time) r.answer) (displaced (leaving_by (offer p time) r.answer (packets_of c.queue store)))
  unfolding condition_of
  by_offered k p c store _ (offered_not_ipv6 v) = rw (displaced_unchanging (packets_of c.queue store)) stands
  by_offered k p c store _ (offered_long v l) = rw (displaced_unchanging (packets_of c.queue store)) stands
  by_offered k p c store _ (offered_early v l t) = rw (displaced_unchanging (packets_of c.queue store)) stands
  by_offered k p c store _ (offered_past v l t x) = rw (displaced_unchanging (packets_of c.queue store)) stands
  by_offered k p c store _ (offered_full v l t x f) = rw (displaced_unchanging (packets_of c.queue store)) stands
  by_offered k p c store _ (offered_taken v l t x f) = joins (lt-ltb time p.expiry x)

  keeping_of : (c : Channel) (store : List ℕ) {st : Condition machine} → condition_of c store ≡ st → packets_of c.queue store ≡ st.keeping
  unfolding condition_of
  keeping_of c store e = ap (λ (st : Condition machine). st.keeping) e

  module _ (count : ℕ) (w : World) (order : InOrder count w) (o : Offer) where
    abbrev p : Packet
    p = o.packet

    -- on the channel of its ID
    own_steps : (at : ℕ) → at < count
        → Steps time p (waiting_at w at) (waiting_at (putting_back (result_in (offer p time) w at) w at) at) (joining_by (offer p time) (result_in (offer p time) w at).answer) (moved_at (offer p time) w at)
    unfolding moved_at
    own_steps at inside =
        let c = channel_in w at in
        let store = store_in w at in
        let r = result_in (offer p time) w at in
        let again = calls.after c store (ready count w order at inside) w.state.datalink (offer p time) in
        rw (at_same count w order at inside (offer p time), store_same count w order at inside (offer p time), keeping_of (channel_after c r) (store_after c store r) again.condition)
        (by_offered (terms_in w at) p c store r (offered machine (terms_in w at) p time (condition_in w at)))

    module _ (index : ℕ) (inside : index < count) where
      -- or on another
      served_steps : (at : ℕ) → at < count → (b : Bool) → eqb at index ≡ b
          → Steps time p (waiting_at w index) (waiting_at (putting_back (result_in (offer p time) w at) w at) index) (cond b (joining_by (offer p time) (result_in (offer p time) w at).answer) []) (cond b (moved_at (offer p time) w at) 0)
      served_steps at there true e = rw (← (eqb-true at index e)) (own_steps at there)
      served_steps at there false e =
          let apart : index ≡ at → ⊥ = λ s. eqb-false at index e (sym s) in
          let here : index < length w.state.channels = omega (arith, order.counted) in
          rw (at_other count w order at there (offer p time) index here apart, store_other count w order at there (offer p time) index here apart) stands

      by_judged : {r : WorldResult Taken} → Judged o.id (offer p time) w r
          → Steps time p (waiting_at w index) (waiting_at r.world index) (cond (is_at w o.id index) (joining_by (offer p time) r.answer) []) (moved_there index time o w)
      unfolding moved_in
      by_judged (outside f) = clash (sym f ∙ order_fits order)
      by_judged (unknown f g) = rw g stands
      by_judged (served f g) =
          let at = index_in w o.id in
          rw g (served_steps at (omega (arith, (found w.state o.id g).0, order.counted)) (eqb at index) refl)

  -- ---- an offer on lent words
  module _ (count : ℕ) (l : Lent) (order : InOrder count (world_in l)) (o : Offer) where
    steps : (index : ℕ) → index < count
        → Steps time o.packet (waiting_at (world_in l) index) (waiting_at (world_in (after_in (call_of time o) l)) index) (joining_there index time o (world_in l)) (moved_there index time o (world_in l))
    steps index inside =
        rw (ap (λ (w : World). waiting_at w index) (after_is time o l)) (by_judged count (world_in l) order o index inside (judged o.id (offer o.packet time) (world_in l)))

-- ---- any offers: what they leave on a channel, and what they move there
abbrev kept_for : (time : ℕ) (joining waiting : List Packet) → List Packet
kept_for time [] waiting = waiting
kept_for time (p ∷ joining) waiting = alive time waiting

record Leaves (time : ℕ) (waiting left joining : List Packet) (moved : ℕ) : Type 0 where
  left_is : left ≡ kept_for time joining waiting ++ joining
  moved_is : moved ≡ displaced (leaving_for time joining waiting)

module _ (time : ℕ) where
  -- behind one that is taken, those that wait stay, and nothing moves
  nothing_due : (p : Packet) → lasts_at time p.expiry ≡ true → (ps last more : List Packet) (n : ℕ) → Leaves time (alive time ps ++ (p ∷ [])) last more n
      → (last ≡ (alive time ps ++ (p ∷ [])) ++ more) × (n ≡ 0)
  nothing_due p lasts ps last [] n h = (h.left_is, h.moved_is ∙ displaced_unchanging (alive time ps ++ (p ∷ [])))
  nothing_due p lasts ps last (q ∷ more) n h =
      (h.left_is ∙ rw (settled time p lasts ps).0, h.moved_is ∙ rw (settled time p lasts ps).1 (displaced_unchanging (alive time ps ++ (p ∷ []))))

  one_more : {p : Packet} {ps left joining : List Packet} {moved : ℕ} → Steps time p ps left joining moved → (last more : List Packet) (n : ℕ) → Leaves time left last more n
      → Leaves time ps last (joining ++ more) (moved + n)
  one_more stands last more n h = record { left_is = h.left_is; moved_is = omega (arith, h.moved_is) }
  one_more {p} {ps} (joins lasts) last more n h =
      let rest = nothing_due p lasts ps last more n h in
      record { left_is = rest.0 ∙ append_assoc (alive time ps) (p ∷ []) more; moved_is = omega (arith, rest.1) }

  none_more : {p q : Packet} {ps left joining : List Packet} {moved : ℕ} → Steps time p ps left joining moved → joining ≡ q ∷ [] → (last more : List Packet) (n : ℕ) → Leaves time left last more n
      → n ≡ 0
  none_more stands e last more n h = clash (cc)
  none_more {p} {ps = ps} (joins lasts) e last more n h = (nothing_due p lasts ps last more n h).1

  module _ (count index : ℕ) (inside : index < count) where
    leaves : (os : List Offer) (l : Lent) → InOrder count (world_in l)
        → Leaves time (waiting_at (world_in l) index) (waiting_at (world_in (left_by time os l)) index) (joining_within index time os l) (moved_within index time os l)
    unfolding joining_within moved_within
    leaves [] l order = record { left_is = sym (append-nil (waiting_at (world_in l) index)); moved_is = sym (displaced_unchanging (waiting_at (world_in l) index)) }
    leaves (o ∷ os) l order =
        let next = after_in (call_of time o) l in
        one_more (steps time count l order o index inside) (waiting_at (world_in (left_by time os next)) index) (joining_within index time os next) (moved_within index time os next)
        (leaves os next (after_order count time o l order))

  marked_for : (joining ps : List Packet) → Marked ps (leaving_for time joining ps) (kept_for time joining ps)
  marked_for [] ps = marked_unchanging ps
  marked_for (p ∷ joining) ps = marked_expiring time ps

-- ---- after a channel's first accepted offer nothing more is due: whatever else is offered at that time, nothing more moves within that store
module _ (time : ℕ) (o : Offer) where
  joins_taken : (a : Answer Taken) → offer_answer a ≡ Ok tt → joining_by (offer o.packet time) a ≡ o.packet ∷ []
  joins_taken (refused number) e = clash (cc)
  joins_taken (answered taken) e = refl

  taken_served : {w : World} {r : WorldResult Taken} → Judged o.id (offer o.packet time) w r → offer_answer r.answer ≡ Ok tt
      → (world_fits w ≡ true) × (is_configured w o.id ≡ true)
  taken_served (outside f) e = clash (cc)
  taken_served (unknown f g) e = clash (cc)
  taken_served (served f g) e = (f, g)

  pub nothing_more : (os : List Offer) (l : Lent) → answer_to time o (world_in l) ≡ Ok tt → moved_within (index_in (world_in l) o.id) time os (after_in (call_of time o) l) ≡ 0
  nothing_more os l e =
      let w = world_in l in
      let at = index_in w o.id in
      let next = after_in (call_of time o) l in
      let known = taken_served (judged o.id (offer o.packet time) w) e in
      let order = in_order w known.0 in
      let inside = (found w.state o.id known.1).0 in
      let joining : joining_there at time o w ≡ o.packet ∷ [] = rw (known.1, eq-eqb at at refl) (joins_taken (calling o.id (offer o.packet time) w).answer e) in
      none_more time (steps time (count_in l) l order o at inside) joining (waiting_at (world_in (left_by time os next)) at) (joining_within at time os next) (moved_within at time os next)
      (leaves time (count_in l) at inside os next (after_order (count_in l) time o l order))

-- a store starts with the bytes of the first of the packets that wait in it
start_of : (q : Queue) (s : List ℕ) (kept joining : List Packet) → packets_of q s ≡ kept ++ joining → take (length (joined kept)) s ≡ joined kept
start_of q s kept joining e =
    let whole : joined (packets_of q s) ≡ joined kept ++ joined joining = ap joined e ∙ joined_append kept joining in
    let longer : length (joined kept) ≤ length (joined (packets_of q s)) = rw (whole, length-append) (omega arith) in
    sym (take-take (length (joined kept)) (length (joined (packets_of q s))) s longer)
    ∙ ap (take (length (joined kept))) (joined_start q s ∙ whole)
    ∙ take-append_seam (joined kept) (joined joining)

module _ (index time : ℕ) (os : List Offer) (l : Lent) (fits : world_fits (world_in l) ≡ true) (inside : index < count_in l) where
  -- "each surviving byte at most once": the packets that leave a channel by all the offers together, and the bytes that these move within its store
  pub handful_leaves : LeavesWithin index time os l
  handful_leaves =
      let w = world_in l in
      let w' = world_in (left_by time os l) in
      let joining = joining_within index time os l in
      let ps = waiting_at w index in
      let h = leaves time (count_in l) index inside os l (in_order w fits) in
      let m = marked_for time joining ps in
      record {
        kept = kept_for time joining ps;
        marked = m;
        waiting_is = h.left_is;
        moved_is = h.moved_is;
        start_is = rw (staying_marked m, remaining_kept (channel_in w index).queue (store_in w index) m)
            (start_of (channel_in w' index).queue (store_in w' index) (kept_for time joining ps) joining h.left_is);
      }

  -- so no more than the bytes that survive
  pub handful_once : moved_within index time os l ≤ staying (stretches_within index time os l)
  handful_once = rw handful_leaves.moved_is (displaced_within (stretches_within index time os l))

  -- and no list of moves that brings the packets that stay to the store's start is shorter than what the offers moved there
  pub handful_least : (ms : List Move) → ToStart (channel_in (world_in l) index).setting.size.0 (stretches_within index time os l) ms → moved_within index time os l ≤ length ms
  handful_least ms start =
      let w = world_in l in
      let c = channel_in w index in
      let at = ready (count_in l) w (in_order w fits) index inside in
      rw handful_leaves.moved_is (marked_least c.setting.size.0 (well_fit c.queue c.setting.size.0 at.well (store_in w index) at.size) handful_leaves.marked ms start)

-- ---- all channels together
module _ (time : ℕ) where
  one_together : (count : ℕ) (w : World) → InOrder count w → (o : Offer) → sum_below (λ index. moved_there index time o w) count ≡ moved_in time o w
  unfolding moved_in
  one_together count w order o = by (is_configured w o.id) refl
    where
      by : (b : Bool) → is_configured w o.id ≡ b → sum_below (λ index. moved_there index time o w) count ≡ cond b (moved_at (offer o.packet time) w (index_in w o.id)) 0
      by false e = sum_same (λ index. moved_there index time o w) (λ index. 0) count (λ index inside. rw e) ∙ sum_none count
      by true e =
          let at = index_in w o.id in
          let number = moved_at (offer o.packet time) w at in
          sum_same (λ index. moved_there index time o w) (λ index. cond (eqb at index) number 0) count (λ index inside. rw e)
          ∙ sum_one at number count (omega (arith, (found w.state o.id e).0, order.counted))

  together : (count : ℕ) (os : List Offer) (l : Lent) → InOrder count (world_in l) → moved_by time os l ≡ sum_below (λ index. moved_within index time os l) count
  unfolding moved_by moved_within
  together count [] l order = sym (sum_none count)
  together count (o ∷ os) l order =
      let next = after_in (call_of time o) l in
      let first : sum_below (λ index. moved_there index time o (world_in l)) count ≡ moved_in time o (world_in l) = one_together count (world_in l) order o in
      let more : moved_by time os next ≡ sum_below (λ index. moved_within index time os next) count = together count os next (after_order count time o l order) in
      let both = sum_both (λ index. moved_there index time o (world_in l)) (λ index. moved_within index time os next) count in
      omega (arith, first, more, both)

  -- what the offers move is what they move within each store
  pub moved_together : (os : List Offer) (l : Lent) → world_fits (world_in l) ≡ true → moved_by time os l ≡ sum_below (λ index. moved_within index time os l) (count_in l)
  moved_together os l fits = together (count_in l) os l (in_order (world_in l) fits)

-- so of what the function behind a handful says that it moved
module _ {h : Handful} {l l' : Lent} {answers answers' : List ℕ} {moved : ByteCount} (judged-so : Tested h l answers) (offered-each : OfferedEach h l moved l' answers') where
  -- it is no more than the moves of any ways, one for each channel, to bring the packets that stay to its store's start
  pub offers_least : (ms : ℕ → List Move) → ((index : ℕ) → index < count_in l → ToStart (channel_in (world_in l) index).setting.size.0 (stretches_within index h.time (offers_of h) l) (ms index))
      → moved.0 ≤ sum_below (λ index. length (ms index)) (count_in l)
  offers_least ms start =
      rw (offered-each.moved_is, moved_together h.time (offers_of h) l judged-so.fits)
      (sum_most (λ index. moved_within index h.time (offers_of h) l) (λ index. length (ms index)) (count_in l)
      (λ index inside. handful_least index h.time (offers_of h) l judged-so.fits inside (ms index) (start index inside)))
