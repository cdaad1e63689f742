-- What a datagram from the radio leaves, and a silence: every channel is told something, and touched in nothing else. Assumes nothing.
use Rattle.std.specs.Prelude.{Option, Some, None, Result, Ok, Err}
use Rattle.quantity.specs.declared.refusal.Refusal.{Refusal}
use Rattle.meaning.specs.declared.message.Plane.{Plane}
use Prim.Native.Nat.{ℕ, ◌<◌}
use mathlib.Core.Bool.{true, and-eq-true_iff}
use mathlib.Core.List.{List}
use mathlib.Core.Path.{◌≡◌, refl, ap, subst, ◌∙◌}
use Rattle.quantity.specs.declared.count.DatalinkId.{DatalinkId}
use Rattle.wire.specs.Numbers.{Octets}
use Rattle.meaning.specs.declared.message.End.TheVariants as ends
use Rattle.meaning.specs.declared.message.Window.{Window}
use Rattle.meaning.specs.declared.message.Control.{Control}
use Rattle.reader.specs.Readings.{Verdict, read_control, read_data, plane_of}
use Rattle.writable.specs.Allowed.{datalink_allowed, instance_allowed, context_allowed, statuses_allowed, control_allowed}
use Rattle.roundtrip.proofs.Writable.{control_writable}
use Rattle.ips_channel_rules.specs.Rules as rules
use Rattle.ips_channel_rules.specs.Rules.{Terms, Condition, step, silence}
use Rattle.ips_channel_rules.specs.Machine.{machine}
use Rattle.ips_channel.specs.declared.state.DatalinkSetting.{DatalinkSetting}
use Rattle.ips_channel.specs.declared.state.Channel.{Channel}
use Rattle.ips_channel.specs.Channel.{terms_of, condition_of, heard_of}
use Rattle.ips_channel_calls.proofs.Again.{heard_condition}
use Rattle.pacer.specs.declared.Pacer.{Pacer}
use Rattle.pacer.specs.Pacing.{pacer_fits}
use Rattle.ips_state.specs.State.{State, channel_at, with_pacer}
use Rattle.ips_state.specs.Memory.{memory_fits, start_of, store_at, World, channel_in, store_in}
use Rattle.ips_state.proofs.Places.{paced_fits}
use Rattle.ips_radio.specs.Heard.{status_in, window_in, heard_from, heard_by, silenced, silenced_by}
use Rattle.ips_radio.proofs.Hearings.{heard_count, heard_sizes, heard_start, heard_fits, heard_at_lem, silenced_count, silenced_sizes, silenced_start, silenced_fits, silenced_at}
use Rattle.ips_run.specs.Run.{Received, dropped, carried, stated, if_accepted, by_plane, control_read, data_read, received_in, part_of, with_state}
use Rattle.ips_run.specs.Demand.{InOrder, Tidy, AsRuled, RuledIn}
use Rattle.ips_run.proofs.Serving.{here}

-- ---- what a datagram comes to: nothing, a packet, or one control message that the radio may state
pub data Brings : Received → Type 0 where
  nothing : Brings dropped
  packet : Brings carried
  message : (m : Control) → control_allowed ends.Radio m ≡ true → Brings (stated m)

pub brings : (datalink : DatalinkId) (datagram : List ℕ) → Octets datagram → Brings (received_in datalink datagram)
unfolding received_in
brings datalink datagram octets = plane (plane_of datagram)
  where
    control : (v : Verdict) → (read_control ends.Radio datalink datagram).verdict ≡ v → Brings (if_accepted v (stated (read_control ends.Radio datalink datagram).message))
    control Verdict.Accepted e = message _ (control_writable ends.Radio datalink datagram octets e)
    control Verdict.OtherPlane e = nothing
    control (Verdict.Refused refusal) e = nothing

    data' : (v : Verdict) → Brings (if_accepted v carried)
    data' Verdict.Accepted = packet
    data' Verdict.OtherPlane = nothing
    data' (Verdict.Refused refusal) = nothing

    plane : (p : Result Plane Refusal) → Brings (by_plane p (control_read (read_control ends.Radio datalink datagram)) (data_read (read_data ends.Radio datalink datagram)))
    plane (Ok Plane.Control) = control _ refl
    plane (Ok Plane.Data) = data' (read_data ends.Radio datalink datagram).verdict
    plane (Err refusal) = nothing

-- ---- one channel is told a Channel Status and a Flow Window, or their absence
told_ruled : (status : Option ℕ) (window : Option Window) (datalink : DatalinkSetting) (c : Channel) (store : List ℕ) → Tidy c store
    → AsRuled (terms_of datalink c.setting) datalink (heard_of c status window) store
    (step machine (terms_of datalink c.setting) (rules.radio status window) (condition_of c store))
unfolding heard_of
told_ruled status window datalink c store tidy = record { terms = refl; condition = heard_condition datalink c store status window; tidy = tidy }

-- in another state, where it and its store stand as they stood
module _ (w : World) (index : ℕ) (s : State) (status : Option ℕ) (window : Option Window) (same : s.datalink ≡ w.state.datalink)
    (at : channel_at s index ≡ heard_of (channel_in w index) status window) (start : start_of s index ≡ start_of w.state index) where
  -- no store is touched
  store_told : store_at s index w.memory ≡ store_in w index
  unfolding store_at heard_of
  store_told = rw (at, start)

  ruled_told : (k : Terms) (st : Condition machine) → AsRuled k w.state.datalink (channel_in w index) (store_in w index) st
      → AsRuled k s.datalink (channel_at s index) (store_at s index w.memory) (step machine k (rules.radio status window) st)
  ruled_told k st before =
      rw (store_told, at, same, ← before.terms, ← before.condition)
      (told_ruled status window w.state.datalink (channel_in w index) (store_in w index) before.tidy)

module _ (count : ℕ) (w : World) (o : InOrder count w) where
  -- ---- a radio message
  module _ (m : Control) where
    pub heard_order : control_allowed ends.Radio m ≡ true → InOrder count (with_state w (heard_by m w.state))
    unfolding control_allowed memory_fits
    heard_order allowed =
        let a = (and-eq-true_iff (datalink_allowed m.datalink) _).0 allowed in
        let b = (and-eq-true_iff (instance_allowed ends.Radio m.instance) _).0 a.1 in
        let d = (and-eq-true_iff (context_allowed ends.Radio m.context) _).0 b.1 in
        let f = (and-eq-true_iff (statuses_allowed ends.Radio m.statuses) _).0 d.1 in
        record {
          counted = heard_count m w.state ∙ o.counted;
          state_fits_lem = heard_fits m w.state o.state_fits_lem f.0 b.0 d.0;
          memory_fits_lem = rw (heard_sizes m w.state) o.memory_fits_lem;
        }

    heard_datalink : (heard_by m w.state).datalink ≡ w.state.datalink
    unfolding heard_by
    heard_datalink = refl

    module _ (index : ℕ) (inside : index < count) where
      at_heard : channel_at (heard_by m w.state) index
          ≡ heard_of (channel_in w index) (status_in m (channel_in w index).setting.id) (window_in m (channel_in w index).setting.id)
      unfolding heard_from
      at_heard = heard_at_lem m w.state index (here count w o index inside)

      pub ruled_heard : (k : Terms) (st : Condition machine) → AsRuled k w.state.datalink (channel_in w index) (store_in w index) st
          → AsRuled k (heard_by m w.state).datalink (channel_at (heard_by m w.state) index) (store_at (heard_by m w.state) index w.memory) (step machine k (part_of k.id m) st)
      ruled_heard k st before =
          subst
          (λ (own : ℕ).
          AsRuled k (heard_by m w.state).datalink (channel_at (heard_by m w.state) index) (store_at (heard_by m w.state) index w.memory) (step machine k (part_of own m) st))
          (ap (λ (x : Terms). x.id) before.terms)
          (ruled_told w index (heard_by m w.state) _ _ heard_datalink at_heard (heard_start m w.state index) k st before)

  -- ---- a silence
  pub silenced_order : InOrder count (with_state w (silenced_by w.state))
  unfolding memory_fits
  silenced_order = record {
    counted = silenced_count w.state ∙ o.counted;
    state_fits_lem = silenced_fits w.state o.state_fits_lem;
    memory_fits_lem = rw (silenced_sizes w.state) o.memory_fits_lem;
  }

  silenced_datalink : (silenced_by w.state).datalink ≡ w.state.datalink
  unfolding silenced_by
  silenced_datalink = refl

  module _ (index : ℕ) (inside : index < count) where
    at_silenced : channel_at (silenced_by w.state) index ≡ heard_of (channel_in w index) None (Some Window.Empty)
    unfolding silenced
    at_silenced = silenced_at w.state index (here count w o index inside)

    pub ruled_silenced : (k : Terms) (st : Condition machine) → AsRuled k w.state.datalink (channel_in w index) (store_in w index) st
        → AsRuled k (silenced_by w.state).datalink (channel_at (silenced_by w.state) index) (store_at (silenced_by w.state) index w.memory) (step machine k silence st)
    ruled_silenced k st before =
        ruled_told w index (silenced_by w.state) None (Some Window.Empty) silenced_datalink at_silenced (silenced_start w.state index) k st before

-- ---- the pacer moves, and touches no channel
pub paced_order : (count : ℕ) (w : World) → InOrder count w → (p : Pacer) → pacer_fits p ≡ true → InOrder count (with_state w (with_pacer w.state p))
unfolding with_pacer memory_fits
paced_order count w o p waits = record { counted = o.counted; state_fits_lem = paced_fits w.state p waits o.state_fits_lem; memory_fits_lem = o.memory_fits_lem }

pub paced_ruled : (k : Terms) (count index : ℕ) (w : World) (st : Condition machine) → RuledIn k count index w st → (p : Pacer) → pacer_fits p ≡ true
    → RuledIn k count index (with_state w (with_pacer w.state p)) st
unfolding with_pacer channel_at store_at start_of
paced_ruled k count index w st before p waits = record { order = paced_order count w before.order p waits; as_ruled = before.as_ruled }
