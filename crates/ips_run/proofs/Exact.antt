-- 19 and 12 are given exactly when the paper says so; from 13 on the channel judges. A refusal "changes no state and no lent byte". Assumes nothing.
use Rattle.std.specs.Prelude.{Result, Ok, Err}
use Rattle.quantity.specs.declared.refusal.Refusal.{Refusal}
use Rattle.meaning.specs.declared.message.Plane.{Plane}
use Prim.Native.Nat.{ℕ, ◌<◌}
use mathlib.Core.Bool.{Bool, true, false, cond, not, and-false, and-eq-true_iff}
use mathlib.Core.List.{List, []}
use mathlib.Core.Logic.{◌↔◌}
use mathlib.Core.Path.{◌≡◌, refl, ap, ap₂, ◌∙◌}
use native.Mathlib.Omega.{arith}
use lib.ListN.{length}
use Rattle.facts.proofs.Tests.{clash}
use Rattle.quantity.specs.declared.count.DatalinkId.{DatalinkId}
use Rattle.quantity.specs.Refusals.{NO-CHANNEL, OUTSIDE-LIMITS}
use Rattle.meaning.specs.declared.message.End.TheVariants as ends
use Rattle.reader.specs.Readings.{Verdict, read_control, read_data, plane_of}
use Rattle.store.specs.Packets.{Packet}
use Rattle.ips_channel_rules.specs.Rules.{ChannelCall, offer, next, withdraw, Taken, Tried, Emptied, Says, refused, Terms, Condition, AfterCall, call_at}
use Rattle.ips_channel_rules.specs.Machine.{machine}
use Rattle.ips_channel_rules.specs.Exactly.{Offered, offered_not_ipv6, offered_long, offered_early, offered_past, offered_full, offered_taken, Asked, asked_early, asked_nothing, asked_not_operational, asked_shut, asked_no_room, asked_sent}
use Rattle.ips_channel_rules.proofs.Exact.{offered, asked, withdraw_is}
use Rattle.ips_channel.specs.declared.state.Channel.{Channel}
use Rattle.ips_channel_calls.specs.Calls.{channel_after, store_after}
use Rattle.pacer.specs.Pacing.{is_earlier}
use Rattle.ips_state.specs.State.{State, channel_at}
use Rattle.ips_state.specs.Limits.{ids, state_fits}
use Rattle.ips_state.specs.Memory.{memory_fits, World, world_fits, is_configured, index_in, channel_in, store_in}
use Rattle.ips_state.proofs.Channels.{stands_among, ids_length, ids_at}
use Rattle.ips_state.proofs.Places.{with_back, store_back, index_one}
use Rattle.ips_run.specs.Calling.{terms_in, condition_in, result_in, WorldResult, refusing, at_channel, calling_under, calling, Judged, outside, unknown, served}
use Rattle.ips_run.specs.Run.{radio, pace, Received, dropped, carried, stated, if_accepted, by_plane, control_read, data_read, received_in, accepted_in, in_time, accepted_under, accepted_by, received, with_state, after_under, after}

-- the ID of a configured channel is among the IDs
pub named : (w : World) (index id : ℕ) → index < length w.state.channels → (channel_in w index).setting.id ≡ id → is_configured w id ≡ true
unfolding channel_at
named w index id inside e =
    stands_among id (ids w.state.channels) index (record { inside = omega (arith, ids_length w.state.channels); is = ids_at w.state.channels index ∙ e })

module _ (id : ℕ) (c : ChannelCall) (w : World) where
  -- ---- given the conditions, the outcome
  pub gives_configuration : world_fits w ≡ false → calling id c w ≡ refusing OUTSIDE-LIMITS w
  unfolding calling_under
  gives_configuration e = rw e

  module _ (fits : world_fits w ≡ true) where
    pub gives_no_channel : is_configured w id ≡ false → calling id c w ≡ refusing NO-CHANNEL w
    unfolding calling_under
    gives_no_channel e = rw (fits, e)

    pub serves : is_configured w id ≡ true → calling id c w ≡ at_channel c w (index_in w id)
    unfolding calling_under
    serves e = rw (fits, e)

    -- the channel of the ID, wherever it stands
    pub serves_at : (index : ℕ) → index < length w.state.channels → (channel_in w index).setting.id ≡ id → calling id c w ≡ at_channel c w index
    serves_at index inside e =
        let state_fits_lem = ((and-eq-true_iff (state_fits w.state) (memory_fits w.state w.memory)).0 fits).0 in
        rw (← (index_one w.state state_fits_lem index id inside e)) (serves (named w index id inside e))

  -- ---- given an outcome, the conditions
  pub judged : Judged id c w (calling id c w)
  unfolding calling_under
  judged = first (world_fits w) refl
    where
      second : (t : Bool) → world_fits w ≡ true → is_configured w id ≡ t → Judged id c w (cond (not t) (refusing NO-CHANNEL w) (at_channel c w (index_in w id)))
      second true f e = served f e
      second false f e = unknown f e

      first : (t : Bool) → world_fits w ≡ t
          → Judged id c w (cond (not t) (refusing OUTSIDE-LIMITS w) (cond (not (is_configured w id)) (refusing NO-CHANNEL w) (at_channel c w (index_in w id))))
      first true f = second (is_configured w id) f refl
      first false f = outside f

-- ---- the numbers that a channel gives lie between the two
module _ (k : Terms) (st : Condition machine) where
  offer_between : (p : Packet) (time : ℕ) (r : AfterCall machine Taken) → Offered machine k p time st r → (n : ℕ) → r.answer ≡ refused n → (NO-CHANNEL < n) × (n < OUTSIDE-LIMITS)
  offer_between p time _ (offered_not_ipv6 v) n e = let is : 13 ≡ n = cc in (omega arith, omega arith)
  offer_between p time _ (offered_long v l) n e = let is : 14 ≡ n = cc in (omega arith, omega arith)
  offer_between p time _ (offered_early v l t) n e = let is : 15 ≡ n = cc in (omega arith, omega arith)
  offer_between p time _ (offered_past v l t x) n e = let is : 16 ≡ n = cc in (omega arith, omega arith)
  offer_between p time _ (offered_full v l t x f) n e = let is : 17 ≡ n = cc in (omega arith, omega arith)
  offer_between p time _ (offered_taken v l t x f) n e = clash (cc)

  next_between : (time room : ℕ) (r : AfterCall machine Tried) → Asked machine k time room st r → (n : ℕ) → r.answer ≡ refused n → (NO-CHANNEL < n) × (n < OUTSIDE-LIMITS)
  next_between time room _ (asked_early t) n e = let is : 15 ≡ n = cc in (omega arith, omega arith)
  next_between time room _ (asked_nothing t w) n e = clash (cc)
  next_between time room _ (asked_not_operational t w o) n e = clash (cc)
  next_between time room _ (asked_shut t w o f) n e = clash (cc)
  next_between time room _ (asked_no_room t w o f r) n e = let is : 18 ≡ n = cc in (omega arith, omega arith)
  next_between time room _ (asked_sent t w o f r) n e = clash (cc)

  pub between : (c : ChannelCall) (n : ℕ) → (call_at machine k c st).answer ≡ refused n → (NO-CHANNEL < n) × (n < OUTSIDE-LIMITS)
  between (offer p time) n e = offer_between p time _ (offered machine k p time st) n e
  between (next time out) n e = next_between time (length out) _ (asked machine k time (length out) st) n e
  between withdraw n e = let empties = ap (λ (r : AfterCall machine Emptied). r.answer) (withdraw_is machine k st) in clash (cc)

module _ (id : ℕ) (c : ChannelCall) (w : World) where
  -- "Calls on a state test 19 first."
  nineteen : {r : WorldResult (Says c)} → Judged id c w r → r.answer ≡ refused OUTSIDE-LIMITS → world_fits w ≡ false
  nineteen (outside f) h = f
  nineteen (unknown f g) h = let z : ◌≡◌ {A = ℕ} 12 19 = cc in absurd (omega arith)
  nineteen (served f g) h = let m = between (terms_in w (index_in w id)) (condition_in w (index_in w id)) c _ h in absurd (omega arith)

  pub exactly_nineteen : ((calling id c w).answer ≡ refused OUTSIDE-LIMITS) ↔ (world_fits w ≡ false)
  exactly_nineteen = (nineteen (judged id c w), λ f. ap (λ (r : WorldResult (Says c)). r.answer) (gives_configuration id c w f))

  twelve : {r : WorldResult (Says c)} → Judged id c w r → r.answer ≡ refused NO-CHANNEL → (world_fits w ≡ true) × (is_configured w id ≡ false)
  twelve (outside f) h = let z : ◌≡◌ {A = ℕ} 19 12 = cc in absurd (omega arith)
  twelve (unknown f g) h = (f, g)
  twelve (served f g) h = let m = between (terms_in w (index_in w id)) (condition_in w (index_in w id)) c _ h in absurd (omega arith)

  pub exactly_twelve : ((calling id c w).answer ≡ refused NO-CHANNEL) ↔ ((world_fits w ≡ true) × (is_configured w id ≡ false))
  exactly_twelve = (twelve (judged id c w), λ f. ap (λ (r : WorldResult (Says c)). r.answer) (gives_no_channel id c w f.0 f.1))

-- ---- "changes no state and no lent byte"
channel_same : {A : Type 0} (c : Channel) (r : AfterCall machine A) (n : ℕ) → r.answer ≡ refused n → channel_after c r ≡ c
unfolding channel_after
channel_same c r n e = rw e

store_same : {A : Type 0} (c : Channel) (store : List ℕ) (r : AfterCall machine A) (n : ℕ) → r.answer ≡ refused n → store_after c store r ≡ store
unfolding store_after
store_same c store r n e = rw e

module _ (id : ℕ) (c : ChannelCall) (w : World) where
  world_same : {r : WorldResult (Says c)} → Judged id c w r → (n : ℕ) → r.answer ≡ refused n → r.world ≡ w
  world_same (outside f) n h = refl
  world_same (unknown f g) n h = refl
  world_same (served f g) n h =
      let index = index_in w id in
      let r = result_in c w index in
      ap₂ {C = World} (λ (state : State) (memory : List ℕ). record { state = state; memory = memory })
      (rw (channel_same (channel_in w index) r n h) (with_back w.state index)) (rw (store_same (channel_in w index) (store_in w index) r n h) (store_back w.state index w.memory))

  pub refused_world : (n : ℕ) → (calling id c w).answer ≡ refused n → (calling id c w).world ≡ w
  refused_world = world_same (judged id c w)

-- ---- a datagram from the radio is heard exactly when it is a control message that is accepted, the state is within the limits and the time is not earlier
module _ (datalink : DatalinkId) (datagram : List ℕ) where
  pub heard_when : plane_of datagram ≡ Ok Plane.Control → (read_control ends.Radio datalink datagram).verdict ≡ Verdict.Accepted
      → received_in datalink datagram ≡ stated (read_control ends.Radio datalink datagram).message
  unfolding received_in
  heard_when plane verdict = rw (plane, verdict)

  pub carried_when : plane_of datagram ≡ Ok Plane.Data → (read_data ends.Radio datalink datagram).verdict ≡ Verdict.Accepted → received_in datalink datagram ≡ carried
  unfolding received_in
  carried_when plane verdict = rw (plane, verdict)

  pub dropped_when : (plane_of datagram ≡ Ok Plane.Control → (read_control ends.Radio datalink datagram).verdict ≡ Verdict.Accepted → ⊥)
      → (plane_of datagram ≡ Ok Plane.Data → (read_data ends.Radio datalink datagram).verdict ≡ Verdict.Accepted → ⊥) → received_in datalink datagram ≡ dropped
  unfolding received_in
  dropped_when never neither = by_plane_lem (plane_of datagram) refl
    where
      by_verdict_lem : (v : Verdict) (r : Received) → (v ≡ Verdict.Accepted → ⊥) → if_accepted v r ≡ dropped
      by_verdict_lem Verdict.Accepted r f = absurd (f refl)
      by_verdict_lem Verdict.OtherPlane r f = refl
      by_verdict_lem (Verdict.Refused refusal) r f = refl

      by_plane_lem : (p : Result Plane Refusal) → plane_of datagram ≡ p
          → by_plane p (control_read (read_control ends.Radio datalink datagram)) (data_read (read_data ends.Radio datalink datagram)) ≡ dropped
      by_plane_lem (Ok Plane.Control) e = by_verdict_lem _ _ (never e)
      by_plane_lem (Ok Plane.Data) e = by_verdict_lem _ _ (neither e)
      by_plane_lem (Err refusal) e = refl

module _ (w : World) (time : ℕ) (datagram : List ℕ) where
  pub accepted_in_time : in_time time w.state ≡ true → accepted_by (radio time datagram) w ≡ accepted_in w.state.datalink.id datagram
  unfolding accepted_under
  accepted_in_time e = rw e

  pub accepted_late : in_time time w.state ≡ false → accepted_by (radio time datagram) w ≡ []
  unfolding accepted_under
  accepted_late e = rw e

  pub received_in_time : in_time time w.state ≡ true → after (radio time datagram) w ≡ with_state w (received time (received_in w.state.datalink.id datagram) w.state)
  unfolding after_under
  received_in_time e = rw e

  -- 19 and 21 leave the world
  pub late_same : in_time time w.state ≡ false → after (radio time datagram) w ≡ w
  unfolding after_under
  late_same e = rw e

  pub outside_same : state_fits w.state ≡ false → after (radio time datagram) w ≡ w
  outside_same e = late_same (rw e)

  pub earlier_same : is_earlier time w.state.pacer ≡ true → after (radio time datagram) w ≡ w
  earlier_same e = late_same (rw (e, and-false (state_fits w.state)))

  -- so does what reading refuses
  pub dropped_same : received_in w.state.datalink.id datagram ≡ dropped → after (radio time datagram) w ≡ w
  unfolding after_under
  dropped_same e = rw e (go (in_time time w.state))
    where
      go : (b : Bool) → cond b w w ≡ w
      go true = refl
      go false = refl

module _ (w : World) (time : ℕ) where
  pub pace_late : in_time time w.state ≡ false → after (pace time) w ≡ w
  unfolding after_under
  pace_late e = rw e
