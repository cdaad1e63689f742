-- A datagram from the radio: the message in it, if it is accepted, has no number wider than it may be, so that the words after it stand for the state after it; and so
-- they do after the pacer was asked. Assumes nothing.
use Rattle.std.specs.Prelude.{Option, Some, None, Result, Ok, Err}
use Rattle.quantity.specs.declared.refusal.Refusal.{Refusal}
use Rattle.meaning.specs.declared.message.Plane.{Plane}
use Prim.Native.Nat.{ℕ, ◌^◌, ◌≤◌, ◌<◌}
use mathlib.Core.Bool.{Bool, true, false, cond, and-eq-true_iff}
use mathlib.Core.List.{List}
use mathlib.Core.Path.{◌≡◌, refl, sym, ap, ◌∙◌}
use native.Mathlib.Omega.{arith}
use borrow.Author.Tests.{leb-true}
use Rattle.quantity.specs.Limits.{HIGHEST-STATUS}
use Rattle.quantity.specs.declared.count.DatalinkId.{DatalinkId}
use Rattle.wire.specs.Numbers.{Octets}
use Rattle.meaning.specs.declared.message.End.TheVariants as ends
use Rattle.meaning.specs.declared.message.Plane.TheVariants as planes
use Rattle.meaning.specs.declared.message.Window.{Window}
use Rattle.meaning.specs.declared.message.Control.{Control}
use Rattle.meaning.specs.Kinds.{CHANNEL-STATUS}
use Rattle.reader.specs.Readings.{Verdict, read_control, read_data, plane_of}
use Rattle.writable.specs.Allowed.{may, datalink_allowed, instance_allowed, context_allowed, status_allowed, statuses_allowed, control_allowed}
use Rattle.roundtrip.specs.Values.{WindowWord, ControlValue}
use Rattle.roundtrip.proofs.Writable.{control_writable, control_is_value}
use Rattle.flow.specs.Counting.{flow_after}
use Rattle.pacer.specs.declared.Pacer.{Pacer}
use Rattle.pacer.specs.Pacing.{is_silent, asked, heard_at, moved_to}
use Rattle.ips_state.specs.State.{with_pacer}
use Rattle.ips_state.specs.Limits.{state_fits}
use Rattle.ips_state.specs.Memory.{World}
use Rattle.ips_radio.specs.Heard.{status_in, window_in, silenced_by}
use Rattle.ips_radio.proofs.Hearings.{status_heard_lem}
use Rattle.ips_run.specs.Run.{radio, pace, Received, dropped, carried, stated, if_accepted, by_plane, control_read, data_read, received_in, in_time, received, paced_by, with_state, after_under, after}
use Rattle.ips_words.specs.Words.{pacer_in, readable, state_in, put_pacer, status_value, flow_window}
use Rattle.ips_words.proofs.Whole.{fit_readable}
use Rattle.ips_words.proofs.Pacers.{paced_in, fit_pacer}
use Rattle.ips_words_radio.specs.HeardWords.{heard_words, silenced_words, received_words, paced_words, Slender}
use Rattle.ips_words_radio.proofs.Heard.{heard_pacer, heard_readable, heard_in_lem, silenced_pacer, silenced_readable, silenced_in}

-- ---- a message that the radio may state, as a value of its struct
low_status : (status : Option ℕ) → status_allowed ends.Radio status ≡ true → status_value status < 256
low_status None e = omega arith
low_status (Some value) e =
    let low : value ≤ HIGHEST-STATUS = leb-true value HIGHEST-STATUS ((and-eq-true_iff (may planes.Control ends.Radio CHANNEL-STATUS) _).0 e).1 in
    omega arith

low_window : (window : Option Window) → WindowWord window → flow_window (flow_after window) < 2 ^ 32
low_window None h = omega arith
low_window (Some Window.Empty) h = omega arith
low_window (Some (Window.Given window)) h = h

allowed_slender : (m : Control) → control_allowed ends.Radio m ≡ true → ControlValue m → Slender m
unfolding control_allowed
allowed_slender m allowed value =
    let a = (and-eq-true_iff (datalink_allowed m.datalink) _).0 allowed in
    let b = (and-eq-true_iff (instance_allowed ends.Radio m.instance) _).0 a.1 in
    let d = (and-eq-true_iff (context_allowed ends.Radio m.context) _).0 b.1 in
    let f = (and-eq-true_iff (statuses_allowed ends.Radio m.statuses) _).0 d.1 in
    record {
      statuses = λ id. low_status (status_in m id) (status_heard_lem m f.0 id);
      windows = λ id. low_window (window_in m id) (value.window_words id);
    }

-- ---- what a datagram comes to: nothing, a packet, or a message whose numbers are no wider than their words are read
pub data SlenderIn : Received → Type 0 where
  nothing : SlenderIn dropped
  packet : SlenderIn carried
  message : (m : Control) → Slender m → SlenderIn (stated m)

pub received_slender : (datalink : DatalinkId) (datagram : List ℕ) → Octets datagram → SlenderIn (received_in datalink datagram)
unfolding received_in
received_slender datalink datagram octets = plane (plane_of datagram)
  where
    control : (v : Verdict) → (read_control ends.Radio datalink datagram).verdict ≡ v → SlenderIn (if_accepted v (stated (read_control ends.Radio datalink datagram).message))
    control Verdict.Accepted e = message _ (allowed_slender _ (control_writable ends.Radio datalink datagram octets e) (control_is_value ends.Radio datalink datagram octets e))
    control Verdict.OtherPlane e = nothing
    control (Verdict.Refused refusal) e = nothing

    data' : (v : Verdict) → SlenderIn (if_accepted v carried)
    data' Verdict.Accepted = packet
    data' Verdict.OtherPlane = nothing
    data' (Verdict.Refused refusal) = nothing

    plane : (p : Result Plane Refusal) → SlenderIn (by_plane p (control_read (read_control ends.Radio datalink datagram)) (data_read (read_data ends.Radio datalink datagram)))
    plane (Ok Plane.Control) = control _ refl
    plane (Ok Plane.Data) = data' (read_data ends.Radio datalink datagram).verdict
    plane (Err refusal) = nothing

-- ---- the words after a datagram, and after the pacer was asked
module _ (time : ℕ) (words : List ℕ) (fits : state_fits (state_in words) ≡ true) where
  says_something : readable words ≡ true
  says_something = fit_readable words fits

  -- the pacer's times written behind what leaves the pacer's words
  moved_in_lem : (words' : List ℕ) → readable words' ≡ true → pacer_in words' ≡ pacer_in words → (p : Pacer) → p.hello ≡ (pacer_in words).hello → p.limit ≡ (pacer_in words).limit
      → state_in (put_pacer words' p) ≡ with_pacer (state_in words') p
  moved_in_lem words' e same p hello limit =
      paced_in words' p e (hello ∙ ap (λ (x : Pacer). x.hello) (sym same)) (limit ∙ ap (λ (x : Pacer). x.limit) (sym same))

  -- THE LAW: they stand for the state after it
  pub received_in_lem : {r : Received} → SlenderIn r → state_in (received_words time r words) ≡ received time r (state_in words)
  unfolding moved_to heard_at
  received_in_lem nothing = refl
  received_in_lem packet = moved_in_lem words says_something refl (moved_to time (pacer_in words)) refl refl ∙ rw (fit_pacer words fits)
  received_in_lem (message m slender) =
      moved_in_lem (heard_words m words) (heard_readable m words fits slender) (heard_pacer m words fits) (heard_at time (pacer_in words)) refl refl
      ∙ rw (heard_in_lem m words fits slender, fit_pacer words fits)

  pub asked_in : state_in (paced_words time words) ≡ paced_by time (state_in words)
  unfolding paced_words paced_by asked
  asked_in =
      go (is_silent time (pacer_in words))
      ∙ ap (λ (p : Pacer). with_pacer (cond (is_silent time p) (silenced_by (state_in words)) (state_in words)) (asked time p)) (sym (fit_pacer words fits))
    where
      go : (silent : Bool) → state_in (put_pacer (cond silent (silenced_words words) words) (asked time (pacer_in words))) ≡ with_pacer (cond silent (silenced_by (state_in words)) (state_in words)) (asked time (pacer_in words))
      go true = moved_in_lem (silenced_words words) (silenced_readable words fits) (silenced_pacer words fits) (asked time (pacer_in words)) refl refl ∙ rw (silenced_in words fits)
      go false = moved_in_lem words says_something refl (asked time (pacer_in words)) refl refl

-- ---- the same of the two calls, refused ones too
module _ (time : ℕ) (words memory : List ℕ) where
  abbrev world : World
  world = record { state = state_in words; memory = memory }

  in_time_fits : in_time time (state_in words) ≡ true → state_fits (state_in words) ≡ true
  in_time_fits e = ((and-eq-true_iff (state_fits (state_in words)) _).0 e).0

  pub radio_in : (datagram : List ℕ) → Octets datagram
      → state_in (cond (in_time time (state_in words)) (received_words time (received_in (state_in words).datalink.id datagram) words) words) ≡ (after (radio time datagram) world).state
  unfolding after_under
  radio_in datagram octets = go (in_time time (state_in words)) refl
    where
      r : Received
      r = received_in (state_in words).datalink.id datagram

      go : (b : Bool) → in_time time (state_in words) ≡ b → state_in (cond b (received_words time r words) words) ≡ (cond b (with_state world (received time r (state_in words))) world).state
      go true e = received_in_lem time words (in_time_fits e) (received_slender (state_in words).datalink.id datagram octets)
      go false e = refl

  pub pace_in : state_in (cond (in_time time (state_in words)) (paced_words time words) words) ≡ (after (pace time) world).state
  unfolding after_under
  pace_in = go (in_time time (state_in words)) refl
    where
      go : (b : Bool) → in_time time (state_in words) ≡ b → state_in (cond b (paced_words time words) words) ≡ (cond b (with_state world (paced_by time (state_in words))) world).state
      go true e = asked_in time words (in_time_fits e)
      go false e = refl
