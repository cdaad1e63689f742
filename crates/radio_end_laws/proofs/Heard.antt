-- "Given exactly when": each answer of Hear. Assumes nothing.
use Rattle.std.specs.Prelude.{Option, Some, None, Result, Ok, Err}
use Rattle.meaning.specs.declared.message.Plane.{Plane}
use Prim.Native.Nat.{ℕ, ◌≤◌}
use mathlib.Core.Bool.{Bool, true, false, not, ◌||◌}
use mathlib.Core.List.{List}
use mathlib.Core.Logic.{◌↔◌}
use mathlib.Core.Path.{◌≡◌, refl, sym, ap, subst, ◌∙◌}
use native.Mathlib.Omega.{arith}
use lib.ListN.{length}
use Rattle.facts.proofs.Tests.{clash}
use Rattle.quantity.specs.declared.count.ByteCount.{ByteCount}
use Rattle.quantity.specs.declared.count.DatalinkId.{DatalinkId}
use Rattle.quantity.specs.declared.count.FlowSequence.{FlowSequence}
use Rattle.quantity.specs.declared.refusal.Refusal.{Refusal}
use Rattle.quantity.specs.Limits.{CHANNEL-IDS}
use Rattle.wire.specs.Options.{over}
use Rattle.meaning.specs.declared.message.End.TheVariants as ends
use Rattle.meaning.specs.declared.message.Control.{Control}
use Rattle.meaning.specs.declared.message.Data.{Data}
use Rattle.writer.specs.Written.{no_room_of}
use Rattle.reader.specs.Readings.{Verdict, ControlReading, DataReading, read_control, read_data, plane_of, packet_of}
use Rattle.acceptance.proofs.Verdicts.{control_numbers, data_numbers, plane_numbers, control_own, data_own}
use Rattle.radio_flow.specs.Granting.{queued_on}
use Rattle.radio_end_state.specs.declared.answer.Answer.{Answer}
use Rattle.radio_end_state.specs.declared.channel.Channel.{Channel}
use Rattle.radio_end_state.specs.Channel.{hearing_on, queueing, with_queued}
use Rattle.radio_end_state.specs.State.{State, channel_at, with_channels}
use Rattle.radio_end_state.specs.Limits.{state_fits, is_configured, index_in}
use Rattle.radio_end_state.specs.Message.{message_bytes, differs}
use Rattle.radio_end_state.specs.Calls.{After, refused_at, telling, sequence_in, is_stated, names_own, lacks_none, hearing_all, control_heard, channel_named, sequence_counted, data_on, data_heard, heard}
use Rattle.radio_end_state.proofs.UpTo.{up_to_at, up_to_by}
use Rattle.radio_end_laws.specs.Plain.{Has, sequence_of, each_channel, of_id, named_channel, counted_sequence, control_taken, data_taken, NamesOwn, WindowChanges}
use Rattle.radio_end_laws.specs.Limits.{WithinLimits}
use Rattle.radio_end_laws.specs.Given.{numbered, NoRoom, Given, given_19, given_12, given_20, given_18, given_message, given_quiet, Exactly, ReadingRefuses, by_header, by_control, by_data, ControlRead, DataRead, Reading, unread, control_read_lem, data_read_lem}
use Rattle.radio_end_laws.proofs.Places.{has_exactly}
use Rattle.radio_end_laws.proofs.Limits.{always, limits_exactly}
use Rattle.radio_end_laws.proofs.Differs.{window_differs}
use Rattle.radio_end_laws.proofs.Ordered.{off, no_room_exactly, Speaks, answered_speaks, unasked_speaks, ordered, exactly}
use Rattle.radio_end_laws.proofs.Changed.{changing_ordered}

-- ---- what a datagram is to the reader: refused, or an accepted message of one plane
module _ (datalink : DatalinkId) (datagram : List ℕ) where
  abbrev control : ControlReading
  control = read_control ends.Ips datalink datagram

  abbrev carried : DataReading
  carried = read_data ends.Ips datalink datagram

  of_control_lem : plane_of datagram ≡ Ok Plane.Control → (v : Verdict) → control.verdict ≡ v → Reading datalink datagram
  of_control_lem p Verdict.Accepted e = control_read_lem control.message (record { plane = p; reading = ap (λ (v : Verdict). record { verdict = v; message = control.message }) e })
  of_control_lem p Verdict.OtherPlane e = absurd (control_own ends.Ips datalink datagram p e)
  of_control_lem p (Verdict.Refused refusal) e = unread refusal (by_control p e)

  of_data_lem : plane_of datagram ≡ Ok Plane.Data → (v : Verdict) → carried.verdict ≡ v → Reading datalink datagram
  of_data_lem p Verdict.Accepted e = data_read_lem carried.message (record { plane = p; reading = ap (λ (v : Verdict). record { verdict = v; message = carried.message }) e })
  of_data_lem p Verdict.OtherPlane e = absurd (data_own ends.Ips datalink datagram p e)
  of_data_lem p (Verdict.Refused refusal) e = unread refusal (by_data p e)

  by_plane_lem : (p : Result Plane Refusal) → plane_of datagram ≡ p → Reading datalink datagram
  by_plane_lem (Ok Plane.Control) p = of_control_lem p control.verdict refl
  by_plane_lem (Ok Plane.Data) p = of_data_lem p carried.verdict refl
  by_plane_lem (Err refusal) p = unread refusal (by_header p)

  pub reads : Reading datalink datagram
  reads = by_plane_lem (plane_of datagram) refl

-- ---- 12, of a control message
lacks_exactly : (s : State) (m : Control) → (lacks_none s m ≡ true) ↔ NamesOwn s m
unfolding lacks_none sequence_in
lacks_exactly s m = (
  λ e id h sequence is.
      let own : (not (is_stated (sequence_of m id)) || is_configured s id) ≡ true = up_to_at (names_own s m) CHANNEL-IDS e id h in
      (has_exactly s id).0 (rw is at own),
  λ f. up_to_by (names_own s m) CHANNEL-IDS (λ id h. by_stated id (sequence_of m id) (λ sequence e. f id h sequence e)),
)
  where
    by_stated : (id : ℕ) (stated : Option FlowSequence) → ((sequence : FlowSequence) → stated ≡ Some sequence → Has s id) → (not (is_stated stated) || is_configured s id) ≡ true
    by_stated id None f = refl
    by_stated id (Some sequence) f = (has_exactly s id).1 (f sequence refl)

-- ---- what a data message names and states
named_is : (channel : Option ℕ) → channel_named channel ≡ named_channel channel
named_is None = refl
named_is (Some id) = refl

counted_is : (counted : Option (ℕ × FlowSequence)) → sequence_counted counted ≡ counted_sequence counted
counted_is None = refl
counted_is (Some (id, sequence)) = refl

taken_is : (m : Data) (bytes : ℕ) (c : Channel) → data_on m (record { 0 = bytes }) c ≡ data_taken m bytes c
unfolding data_on queueing with_queued hearing_on queued_on
taken_is m bytes c = rw (counted_is m.sequence)

module _ (s : State) (datagram out : List ℕ) where
  abbrev short : State → Bool
  short after = no_room_of (length (message_bytes after)) (length out)

  -- ---- an accepted control message: 19, 12, 18
  module _ (m : Control) (accepted : ControlRead s.datalink datagram m) where
    -- its answer has windows as they are after hearing
    abbrev pub after_control : State
    after_control = each_channel s (control_taken m)

    pub control_ordered : heard s datagram out ≡ ordered (λ n. Ok (Answer.Answered n)) s after_control out (state_fits s) (lacks_none s m) true true (short after_control)
    unfolding heard control_heard telling hearing_all with_channels hearing_on sequence_in
    control_ordered = rw (accepted.plane, accepted.reading)

    pub heard_control_exactly : Exactly (WithinLimits s) (NamesOwn s m) (Unit {0}) (Unit {0}) (λ n. Ok (Answer.Answered n)) s after_control out (heard s datagram out)
    heard_control_exactly =
        exactly (λ n. Ok (Answer.Answered n)) s after_control out answered_speaks (state_fits s) (lacks_none s m) true true (limits_exactly s) (lacks_exactly s m) always always control_ordered

    -- "answers each accepted IPS control message"
    pub control_answered : WithinLimits s → NamesOwn s m → (NoRoom (message_bytes after_control) out → ⊥)
        → heard s datagram out ≡ record { answer = Ok (Answer.Answered (record { 0 = length (message_bytes after_control) })); state = after_control; output = over (message_bytes after_control) out }
    control_answered within own room = control_ordered ∙ rw ((limits_exactly s).1 within, (lacks_exactly s m).1 own, off (short after_control) (no_room_exactly (message_bytes after_control) out) room)

  -- ---- an accepted data message: 19, 12, 18
  module _ (m : Data) (accepted : DataRead s.datalink datagram m) where
    abbrev pub channel_of : ℕ
    channel_of = named_channel m.channel

    abbrev pub taken_by : Channel → Channel
    taken_by = data_taken m (length (packet_of datagram))

    abbrev pub after_data : State
    after_data = of_id s channel_of taken_by

    pub data_ordered : heard s datagram out ≡ ordered (λ n. Ok (Answer.Unasked n)) s after_data out (state_fits s) (is_configured s channel_of) true (differs s after_data) (short after_data)
    unfolding heard data_heard
    data_ordered =
        rw (accepted.plane, accepted.reading, named_is m.channel, taken_is m (length (packet_of datagram)) (channel_at s (index_in s channel_of)))
        (changing_ordered s channel_of taken_by out (state_fits s) (is_configured s channel_of) true refl refl)

    -- it makes a message exactly if a window changed
    pub heard_data_exactly : Exactly (WithinLimits s) (Has s channel_of) (Unit {0}) (WindowChanges s channel_of taken_by) (λ n. Ok (Answer.Unasked n)) s after_data out (heard s datagram out)
    heard_data_exactly =
        exactly (λ n. Ok (Answer.Unasked n)) s after_data out unasked_speaks (state_fits s) (is_configured s channel_of) true (differs s after_data)
        (limits_exactly s) (has_exactly s channel_of) always (window_differs s channel_of taken_by (λ c. refl)) data_ordered

  -- ---- 1 to 11
  pub heard_unread : state_fits s ≡ true → (refusal : Refusal) → ReadingRefuses s.datalink datagram refusal → heard s datagram out ≡ refused_at refusal s out
  unfolding heard
  heard_unread fits refusal (by_header p) = rw (fits, p)
  heard_unread fits refusal (by_control p v) = rw (fits, p, v)
  heard_unread fits refusal (by_data p v) = rw (fits, p, v)

  -- ---- 19
  heard_outside : state_fits s ≡ false → heard s datagram out ≡ record { answer = numbered 19; state = s; output = out }
  unfolding heard
  heard_outside e = rw e

-- no other refusal has a number up to 11
one_refusal : {refusal other : Refusal} → ◌≡◌ {A = Result Answer Refusal} (Err refusal) (Err other) → refusal ≡ other
one_refusal e = cc

high : (number : ℕ) (refusal : Refusal) → 12 ≤ number → numbered number ≡ Err refusal → 12 ≤ refusal.number
high number refusal h e = let same = ap (λ (r : Refusal). r.number) (one_refusal e) in omega (arith, h, same)

given_high : {Fits Named Writable Told : Type 0} (say : ByteCount → Result Answer Refusal) → Speaks say → (message out : List ℕ) (a : Result Answer Refusal) → Given Fits Named Writable Told say message out a
    → (refusal : Refusal) → a ≡ Err refusal → 12 ≤ refusal.number
given_high say speaks message out a (given_19 x) refusal e = high 19 refusal (omega arith) e
given_high say speaks message out a (given_12 x y) refusal e = high 12 refusal (omega arith) e
given_high say speaks message out a (given_20 x y z) refusal e = high 20 refusal (omega arith) e
given_high say speaks message out a (given_18 x y z u v) refusal e = high 18 refusal (omega arith) e
given_high say speaks message out a (given_message x y z u v) refusal e = absurd (speaks.not_refused _ refusal e)
given_high say speaks message out a (given_quiet x y z u) refusal e = clash (cc)

-- and reading has no higher one
reading_low : (datalink : DatalinkId) (datagram : List ℕ) (refusal : Refusal) → ReadingRefuses datalink datagram refusal → refusal.number ≤ 11
reading_low datalink datagram refusal (by_header p) = (plane_numbers datagram refusal p).1
reading_low datalink datagram refusal (by_control p v) = (control_numbers ends.Ips datalink datagram refusal v).1
reading_low datalink datagram refusal (by_data p v) = (data_numbers ends.Ips datalink datagram refusal v).1

-- 19 is the state's alone
one_number_lem : (number other : ℕ) → numbered number ≡ numbered other → number ≡ other
one_number_lem number other e = ap (λ (r : Refusal). r.number) (one_refusal e)

alone : {Fits Named Writable Told : Type 0} (say : ByteCount → Result Answer Refusal) → Speaks say → (message out : List ℕ) (a : Result Answer Refusal) → Given Fits Named Writable Told say message out a
    → a ≡ numbered 19 → Fits → ⊥
alone say speaks message out a (given_19 x) e = x
alone say speaks message out a (given_12 x y) e = λ fits. omega (arith, one_number_lem 12 19 e)
alone say speaks message out a (given_20 x y z) e = λ fits. omega (arith, one_number_lem 20 19 e)
alone say speaks message out a (given_18 x y z u v) e = λ fits. omega (arith, one_number_lem 18 19 e)
alone say speaks message out a (given_message x y z u v) e = λ fits. speaks.not_refused _ _ e
alone say speaks message out a (given_quiet x y z u) e = clash (cc)

module _ (s : State) (datagram out : List ℕ) where
  -- REFUSED BY 1 TO 11 exactly as reading refuses it, by that number and at that place
  pub heard_reading : (refusal : Refusal) → refusal.number ≤ 11 → ((heard s datagram out).answer ≡ Err refusal) ↔ (WithinLimits s × ReadingRefuses s.datalink datagram refusal)
  heard_reading refusal low = (
    λ e. fitting (state_fits s) refl e,
    λ x. ap (λ (r : After). r.answer) (heard_unread s datagram out ((limits_exactly s).1 x.0) refusal x.1),
  )
    where
      by_reading : state_fits s ≡ true → Reading s.datalink datagram → (heard s datagram out).answer ≡ Err refusal → ReadingRefuses s.datalink datagram refusal
      by_reading fits (unread other w) e =
          let same : other ≡ refusal = one_refusal (sym (ap (λ (r : After). r.answer) (heard_unread s datagram out fits other w)) ∙ e) in
          subst (ReadingRefuses s.datalink datagram) same w
      by_reading fits (control_read_lem m a) e = let h = given_high (λ n. Ok (Answer.Answered n)) answered_speaks _ out _ (((heard_control_exactly s datagram out m a).given _).0 e) refusal refl in absurd (omega (arith, h, low))
      by_reading fits (data_read_lem m a) e = let h = given_high (λ n. Ok (Answer.Unasked n)) unasked_speaks _ out _ (((heard_data_exactly s datagram out m a).given _).0 e) refusal refl in absurd (omega (arith, h, low))

      fitting : (f : Bool) → state_fits s ≡ f → (heard s datagram out).answer ≡ Err refusal → WithinLimits s × ReadingRefuses s.datalink datagram refusal
      fitting true f e = ((limits_exactly s).0 f, by_reading f (reads s.datalink datagram) e)
      fitting false f e = let h = high 19 refusal (omega arith) (sym (ap (λ (r : After). r.answer) (heard_outside s datagram out f)) ∙ e) in absurd (omega (arith, h, low))

  -- REFUSED BY 19 exactly if the state is outside the limits, whatever the datagram is; then state and output are as they were
  pub heard_nineteen : (((heard s datagram out).answer ≡ numbered 19) ↔ (WithinLimits s → ⊥))
      × ((WithinLimits s → ⊥) → heard s datagram out ≡ record { answer = numbered 19; state = s; output = out })
  heard_nineteen = ((λ e within. of_reading within (reads s.datalink datagram) e, λ never. ap (λ (r : After). r.answer) (outside never)), outside)
    where
      outside : (WithinLimits s → ⊥) → heard s datagram out ≡ record { answer = numbered 19; state = s; output = out }
      outside never = heard_outside s datagram out (off (state_fits s) (limits_exactly s) never)

      of_reading : WithinLimits s → Reading s.datalink datagram → (heard s datagram out).answer ≡ numbered 19 → ⊥
      of_reading within (unread other w) e =
          let same = one_refusal (sym (ap (λ (r : After). r.answer) (heard_unread s datagram out ((limits_exactly s).1 within) other w)) ∙ e) in
          omega (arith, reading_low s.datalink datagram other w, ap (λ (r : Refusal). r.number) same)
      of_reading within (control_read_lem m a) e = alone (λ n. Ok (Answer.Answered n)) answered_speaks _ out _ (((heard_control_exactly s datagram out m a).given _).0 e) refl within
      of_reading within (data_read_lem m a) e = alone (λ n. Ok (Answer.Unasked n)) unasked_speaks _ out _ (((heard_data_exactly s datagram out m a).given _).0 e) refl within
