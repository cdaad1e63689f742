-- Each channel's run is the projection of the whole run: what it leaves, and every answer, is what the rules of its life give on what it sees. Assumes nothing.
use Prim.Native.Nat.{ℕ, ◌<◌}
use mathlib.Core.Bool.{Bool, true, false, cond, not, ◌&&◌}
use mathlib.Core.List.{List, [], ◌∷◌, ◌++◌, map}
use mathlib.Core.Path.{◌≡◌, refl, sym, ap, ◌∙◌}
use native.Mathlib.Omega.{arith}
use borrow.Author.Tests.{eqb-true, eqb-false}
use lib.Dec.{eqb}
use Rattle.facts.proofs.Tests.{clash}
use Rattle.ips_channel_rules.specs.Rules as rules
use Rattle.ips_channel_rules.specs.Rules.{ChannelCall, Says, Event, Happened, Terms, Condition, step, happens, history, final}
use Rattle.ips_channel_rules.specs.Machine.{machine}
use Rattle.ips_channel_rules.proofs.Leaves.{final_append}
use Rattle.pacer.specs.Pacing.{pacer_fits, is_earlier, is_silent, asked, heard_at, moved_to}
use Rattle.ips_state.specs.State.{channel_at, with_pacer}
use Rattle.ips_state.specs.Memory.{start_of, store_at, World, world_fits, is_configured, index_in, channel_in}
use Rattle.ips_state.proofs.Places.{fit, found, index_one}
use Rattle.ips_radio.specs.Heard.{heard_by, silenced_by}
use Rattle.ips_run.specs.Calling.{terms_in, WorldResult, calling, Judged, outside, unknown, served}
use Rattle.ips_run.specs.Run.{Call, on, radio, pace, query, Received, dropped, carried, stated, received_in, messages_in, accepted_in, in_time, accepted_under, accepted_by, silent_under, received, paced_by, with_state, after_under, after, after_all, if_own, if_silent, part_of, part_heard, sees, sees_all, happens_to, happens_all}
use Rattle.ips_run.specs.Datagrams.{accepted_within}
use Rattle.ips_run.specs.Demand.{bytes_in, BytesIn, RuledIn, Follows, Untouched}
use Rattle.ips_run.proofs.Exact.{serves_at, judged}
use Rattle.ips_run.proofs.Serving.{here, served_order, ruled_same, at_other, store_other, ruled_other}
use Rattle.ips_run.proofs.Hearing.{Brings, nothing, packet, message, brings, heard_order, ruled_heard, silenced_order, ruled_silenced, paced_ruled}

pub history_append : (k : Terms) (es fs : List Event) (st : Condition machine) → history machine k (es ++ fs) st ≡ history machine k es st ++ history machine k fs (final machine k es st)
history_append k [] fs st = refl
history_append k (e ∷ es) fs st = ap (λ (l : List Happened). happens machine k e st ∷ l) (history_append k es fs _)

-- nothing is seen of a call on a channel of another ID
unseen_other : (own id : ℕ) (e : Event) → if_own own id e ≡ [] → own ≡ id → ⊥
unseen_other own id e none same = go (eqb own id) refl none
  where
    go : (b : Bool) → eqb own id ≡ b → cond b (e ∷ []) [] ≡ [] → ⊥
    go true t h = clash (cc)
    go false t h = eqb-false own id t same

module _ (k : Terms) (count index : ℕ) (inside : index < count) (w : World) (st : Condition machine) (p : RuledIn k count index w st) where
  abbrev fits : world_fits w ≡ true
  fits = rw (p.order.state_fits_lem, p.order.memory_fits_lem)

  own_id : (channel_in w index).setting.id ≡ k.id
  own_id = ap (λ (x : Terms). x.id) p.as_ruled.terms

  pub own_datalink : w.state.datalink.id ≡ k.datalink
  own_datalink = ap (λ (x : Terms). x.datalink) p.as_ruled.terms

  -- its ID finds the channel
  pub own_terms : (id : ℕ) → k.id ≡ id → terms_in w (index_in w id) ≡ k
  own_terms id own = rw (index_one w.state p.order.state_fits_lem index id (here count w p.order index inside) (own_id ∙ own)) p.as_ruled.terms

  unmoved : Follows k count index w [] [] st
  unmoved = record { ruled_in = p; history_is = refl }

  -- the place of another channel's ID
  other_there : {id : ℕ} → (k.id ≡ id → ⊥) → is_configured w id ≡ true → (index_in w id < count) × (index ≡ index_in w id → ⊥)
  other_there {id} apart g =
      let there = found w.state id g in
      (omega (arith, there.0, p.order.counted), λ (s : index ≡ index_in w id). apart (sym own_id ∙ ap (λ (n : ℕ). (channel_in w n).setting.id) s ∙ there.1))

  -- ---- a call on a channel
  module _ (id : ℕ) (c : ChannelCall) where
    abbrev outcome : WorldResult (Says c)
    outcome = calling id c w

    -- its own
    own_call : k.id ≡ id → Follows k count index outcome.world (rules.called c outcome.answer ∷ []) (rules.call c ∷ []) st
    own_call same =
        rw (serves_at id c w fits index (here count w p.order index inside) (own_id ∙ same))
        (record {
          ruled_in = record { order = served_order count w p.order index inside c; as_ruled = ruled_same count w p.order index inside c k st p.as_ruled };
          history_is = rw (← p.as_ruled.terms, ← p.as_ruled.condition);
        })

    -- another's, or 12: the channel and its store are as they were
    other_same : (k.id ≡ id → ⊥) → {r : WorldResult (Says c)} → Judged id c w r → Untouched index w r.world
    other_same apart (outside f) = record { channel = refl; store = refl }
    other_same apart (unknown f g) = record { channel = refl; store = refl }
    other_same apart (served f g) = let there = other_there apart g in record {
      channel = at_other count w p.order (index_in w id) there.0 c index (here count w p.order index inside) there.1;
      store = store_other count w p.order (index_in w id) there.0 c index (here count w p.order index inside) there.1;
    }

    other_call : (k.id ≡ id → ⊥) → {r : WorldResult (Says c)} → Judged id c w r → Follows k count index r.world [] [] st
    other_call apart (outside f) = clash (sym f ∙ fits)
    other_call apart (unknown f g) = unmoved
    other_call apart (served f g) = let there = other_there apart g in record {
      ruled_in = record {
        order = served_order count w p.order (index_in w id) there.0 c;
        as_ruled = ruled_other count w p.order (index_in w id) there.0 c index (here count w p.order index inside) there.1 k st p.as_ruled;
      };
      history_is = refl;
    }

    call_untouched : (k.id ≡ id → ⊥) → Untouched index w outcome.world
    call_untouched apart = other_same apart (judged id c w)

    any_call : Follows k count index outcome.world (if_own k.id id (rules.called c outcome.answer)) (if_own k.id id (rules.call c)) st
    any_call = go (eqb k.id id) refl
      where
        go : (b : Bool) → eqb k.id id ≡ b → Follows k count index outcome.world (cond b (rules.called c outcome.answer ∷ []) []) (cond b (rules.call c ∷ []) []) st
        go true t = own_call (eqb-true _ _ t)
        go false t = other_call (eqb-false _ _ t) (judged id c w)

  pub waits_here : pacer_fits w.state.pacer ≡ true
  waits_here = (fit w.state p.order.state_fits_lem).waits

  -- ---- a radio message: heard by the channel, and the pacer moves
  abbrev heard_follows : (time : ℕ) → Received → Type 0
  heard_follows time r =
      Follows k count index (with_state w (received time r w.state)) (map (part_heard k.id) (messages_in r)) (map (part_of k.id) (messages_in r)) st

  received_follows : (time : ℕ) {r : Received} → Brings r → heard_follows time r
  unfolding moved_to heard_at
  received_follows time nothing = unmoved
  received_follows time packet = record { ruled_in = paced_ruled k count index w st p (moved_to time w.state.pacer) waits_here; history_is = refl }
  received_follows time (message m allowed) =
      let heard_in_lem : RuledIn k count index (with_state w (heard_by m w.state)) (step machine k (part_of k.id m) st) =
      record { order = heard_order count w p.order m allowed; as_ruled = ruled_heard count w p.order m index inside k st p.as_ruled } in
      record {
        ruled_in = paced_ruled k count index (with_state w (heard_by m w.state)) _ heard_in_lem (heard_at time w.state.pacer) waits_here;
        history_is = refl;
      }

  -- ---- the pacer is asked: a silence is seen by the channel
  paced_follows : (time : ℕ) (silent : Bool)
      → Follows k count index (with_state w (with_pacer (cond silent (silenced_by w.state) w.state) (asked time w.state.pacer))) (if_silent silent rules.silent) (if_silent silent rules.silence) st
  unfolding asked
  paced_follows time false = record { ruled_in = paced_ruled k count index w st p (asked time w.state.pacer) waits_here; history_is = refl }
  paced_follows time true =
      let silent-in : RuledIn k count index (with_state w (silenced_by w.state)) (step machine k rules.silence st) =
      record { order = silenced_order count w p.order; as_ruled = ruled_silenced count w p.order index inside k st p.as_ruled } in
      record {
        ruled_in = paced_ruled k count index (with_state w (silenced_by w.state)) _ silent-in (asked time w.state.pacer) waits_here;
        history_is = refl;
      }

  -- 19 refuses no call here: what is accepted, and whether it is silent, goes by the datagram's bytes and by the pacer
  pub in_time_here : (time : ℕ) → in_time time w.state ≡ not (is_earlier time w.state.pacer)
  in_time_here time = rw p.order.state_fits_lem

  pub accepted_here : (time : ℕ) (datagram : List ℕ) → accepted_by (radio time datagram) w ≡ accepted_within k.datalink w.state.pacer (radio time datagram)
  unfolding accepted_under
  accepted_here time datagram = rw (p.order.state_fits_lem, own_datalink)

  -- ONE CALL
  pub step_follows : (c : Call) → bytes_in c → Follows k count index (after c w) (happens_to k.id c w) (sees k.id c w) st
  unfolding after_under accepted_under silent_under accepted_in paced_by
  step_follows (on id c) b = any_call id c
  step_follows (radio time datagram) b = go (in_time time w.state)
    where
      go : (t : Bool) → Follows k count index (cond t (with_state w (received time (received_in w.state.datalink.id datagram) w.state)) w)
          (map (part_heard k.id) (cond t (accepted_in w.state.datalink.id datagram) [])) (map (part_of k.id) (cond t (accepted_in w.state.datalink.id datagram) [])) st
      go true = received_follows time (brings w.state.datalink.id datagram b)
      go false = unmoved
  step_follows (pace time) b = go (in_time time w.state)
    where
      go : (t : Bool) → Follows k count index (cond t (with_state w (paced_by time w.state)) w)
          (if_silent (t && is_silent time w.state.pacer) rules.silent) (if_silent (t && is_silent time w.state.pacer) rules.silence) st
      go true = paced_follows time (is_silent time w.state.pacer)
      go false = unmoved
  step_follows (query out) b = unmoved

  -- what the channel doesn't see (a call on another, a radio message that is not accepted, a pacer that is asked in no silence, a query) changes no byte of it
  untouched_received : (time : ℕ) (r : Received) → map (part_of k.id) (messages_in r) ≡ [] → Untouched index w (with_state w (received time r w.state))
  unfolding with_pacer channel_at store_at start_of
  untouched_received time dropped unseen = record { channel = refl; store = refl }
  untouched_received time carried unseen = record { channel = refl; store = refl }
  untouched_received time (stated m) unseen = clash (cc)

  untouched_paced : (time : ℕ) (silent : Bool) → if_silent silent rules.silence ≡ []
      → Untouched index w (with_state w (with_pacer (cond silent (silenced_by w.state) w.state) (asked time w.state.pacer)))
  unfolding with_pacer channel_at store_at start_of
  untouched_paced time false unseen = record { channel = refl; store = refl }
  untouched_paced time true unseen = clash (cc)

  pub untouched : (c : Call) → sees k.id c w ≡ [] → Untouched index w (after c w)
  unfolding after_under accepted_under silent_under accepted_in paced_by
  untouched (on id c) unseen = call_untouched id c (unseen_other k.id id (rules.call c) unseen)
  untouched (radio time datagram) unseen = go (in_time time w.state) unseen
    where
      go : (t : Bool) → map (part_of k.id) (cond t (accepted_in w.state.datalink.id datagram) []) ≡ []
          → Untouched index w (cond t (with_state w (received time (received_in w.state.datalink.id datagram) w.state)) w)
      go true none = untouched_received time (received_in w.state.datalink.id datagram) none
      go false none = record { channel = refl; store = refl }
  untouched (pace time) unseen = go (in_time time w.state) unseen
    where
      go : (t : Bool) → if_silent (t && is_silent time w.state.pacer) rules.silence ≡ [] → Untouched index w (cond t (with_state w (paced_by time w.state)) w)
      go true none = untouched_paced time (is_silent time w.state.pacer) none
      go false none = record { channel = refl; store = refl }
  untouched (query out) unseen = record { channel = refl; store = refl }

-- ANY CALLS
pub all_follow : (k : Terms) (count index : ℕ) → index < count → (cs : List Call) → BytesIn cs → (w : World) (st : Condition machine) → RuledIn k count index w st
    → Follows k count index (after_all cs w) (happens_all k.id cs w) (sees_all k.id cs w) st
all_follow k count index inside [] b w st p = record { ruled_in = p; history_is = refl }
all_follow k count index inside (c ∷ cs) b w st p =
    let es = sees k.id c w in
    let fs = sees_all k.id cs (after c w) in
    let one = step_follows k count index inside w st p c b.0 in
    let more = all_follow k count index inside cs b.1 (after c w) (final machine k es st) one.ruled_in in
    record {
      ruled_in = rw (final_append machine k es fs st) more.ruled_in;
      history_is = rw (one.history_is, more.history_is) (sym (history_append k es fs st));
    }
