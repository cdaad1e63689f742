-- Each way out of hearing. Assumes nothing.
use Rattle.std.specs.Prelude.{Option, Result, Ok, Err}
use Rattle.meaning.specs.declared.message.ContextBytes.{ContextBytes}
use Rattle.meaning.specs.declared.message.Plane.{Plane}
use Prim.Native.Nat.{ℕ, ◌-◌, ◌≤◌}
use mathlib.Core.Bool.{true, false}
use mathlib.Core.List.{List}
use mathlib.Core.Path.{◌≡◌, refl, sym, ap, ◌∙◌}
use native.Mathlib.Omega.{arith}
use lib.ListN.{length, length-drop}
use Rattle.quantity.specs.declared.count.ByteCount.{ByteCount}
use Rattle.quantity.specs.declared.count.DatalinkId.{DatalinkId}
use Rattle.quantity.specs.declared.refusal.Refusal.{Refusal}
use Rattle.quantity.specs.Refusals.{OUTSIDE-LIMITS, NO-CHANNEL}
use Rattle.meaning.specs.declared.message.End.TheVariants as ends
use Rattle.meaning.specs.declared.message.Control.{Control}
use Rattle.meaning.specs.declared.message.Data.{Data}
use Rattle.writer.specs.Written.{Outcome}
use Rattle.read_data.specs.Packet.{start_with}
use Rattle.reader.specs.Readings.{Verdict, ControlReading, CarriedReading, Carries, plane_of, read_control, read_data, read_carried, packet_of, carried_reading}
use Rattle.radio_end_state.specs.declared.answer.Answer.{Answer}
use Rattle.radio_end_state.specs.declared.channel.Channel.{Channel}
use Rattle.radio_end_state.specs.Channel.{hearing_on, with_queued, queueing}
use Rattle.radio_end_state.specs.State.{State, no_channel, channel_at, with_channel}
use Rattle.radio_end_state.specs.Limits.{index_in, state_fits}
use Rattle.radio_end_state.specs.Message.{message_bytes}
use Rattle.radio_end_state.specs.Calls.{After, within, configured, settling, lacks_none, hearing_all, control_heard, channel_named, data_on, data_heard, control_read, data_read, by_verdict, heard}
use Rattle.radio_end_words.specs.Words.{state_in, state_words}
use Rattle.radio_end_message.specs.Changed.{changed}
use Rattle.radio_end_telling.specs.Left.{Left, found_of, Settles}
use Rattle.radio_end_telling.proofs.Changing.{changed_heard}
use Rattle.radio_end_telling.proofs.Settling.{left_by_lem, left_refused, left_refusal, told_wrote, told_refused, FoundAt, found_refused, found_settles, found_low, changing_is}
use Rattle.radio_end_telling.proofs.Told.{left_as}

-- ---- a data message
module _ (words : List ℕ) (message : Data) (bytes : ByteCount) (out : List ℕ) where
  abbrev id : ℕ
  id = channel_named message.channel

  pub data_unfound : state_fits (state_in words) ≡ true → (r : Refusal) → Err r ≡ found_of (state_in words) id → Left (data_heard (state_in words) message bytes out) words (Err r) words out
  unfolding data_heard
  data_unfound fits r e =
      let call : After = configured (state_in words) id out (settling (state_in words) (with_channel (state_in words) (index_in (state_in words) id) (data_on message bytes (channel_at (state_in words) (index_in (state_in words) id)))) out) in
      let first : within (state_in words) out call ≡ call = rw fits in
      left_refusal _ words r (state_in words) out (sym first ∙ found_refused (state_in words) id r e out _)

  pub data_done : (i : ℕ) → (f : FoundAt (state_in words) id i) → (c d : Channel) → c ≡ channel_at (state_in words) i → d ≡ data_on message bytes c → (answer : Result Answer Refusal) (words' out' : List ℕ)
      → Left (settling (state_in words) (with_channel (state_in words) i d) out) words answer words' out' → Left (data_heard (state_in words) message bytes out) words answer words' out'
  unfolding data_heard
  data_done i f c d e is answer words' out' l =
      left_as _ _ words answer words' out' (rw f.has (changing_is words id i f (data_on message bytes) c d e is out)) l

pub data_settles : (words : List ℕ) (message : Data) (bytes : ByteCount) (i : ℕ) → FoundAt (state_in words) (channel_named message.channel) i → (c d : Channel) → c ≡ channel_at (state_in words) i → d ≡ data_on message bytes c
    → Settles words (state_in words) i d
unfolding data_on queueing with_queued hearing_on
data_settles words message bytes i f c d e is =
    found_settles words (channel_named message.channel) i f c d e (ap (λ (x : Channel). x.setting.id) is) (rw is (found_low words (channel_named message.channel) i f c e))

-- ---- by the reader's verdict
module _ (s : State) (words out : List ℕ) (fits : state_words s ≡ words) (accepted : After) (verdict : Verdict) where
  pub by_accepted : verdict ≡ Verdict.Accepted → (answer : Result Answer Refusal) (words' out' : List ℕ) → Left accepted words answer words' out' → Left (by_verdict verdict s out accepted) words answer words' out'
  by_accepted e answer words' out' l = rw e l

  pub by_other : verdict ≡ Verdict.OtherPlane → Left (by_verdict verdict s out accepted) words (Ok Answer.Quiet) words out
  by_other e = rw e (record { answer_is = refl; words_are = sym fits; output_is = refl })

  pub by_refused : (r : Refusal) → verdict ≡ Verdict.Refused r → Left (by_verdict verdict s out accepted) words (Err r) words out
  by_refused r e = rw e (record { answer_is = refl; words_are = refl; output_is = refl })

-- ---- a control message
module _ (words : List ℕ) (message : Control) (out : List ℕ) where
  pub control_lacks : lacks_none (state_in words) message ≡ false → (answer : Result Answer Refusal) → answer ≡ Err (record { number = NO-CHANNEL; place = 0 }) → Left (control_heard (state_in words) message out) words answer words out
  unfolding control_heard
  control_lacks e answer f = left_refused _ words NO-CHANNEL (state_in words) out answer (rw e) f

  module _ (none-lacks : lacks_none (state_in words) message ≡ true) (n : ℕ) (many : n ≡ length (state_in words).channels) (c : Channel) (none : c ≡ no_channel) (k : Option (ContextBytes × ℕ)) (kept : k ≡ (state_in words).context) (written : Result ByteCount Refusal) (out' : List ℕ) (o : Outcome true (message_bytes (changed (state_in words) k n c message.sequences)) out written out') where
    after_hearing_lem : Outcome true (message_bytes (hearing_all (state_in words) message)) out written out'
    after_hearing_lem =
        let same : changed (state_in words) k n c message.sequences ≡ hearing_all (state_in words) message = rw (many, none, kept) (changed_heard (state_in words) message) in
        rw same at o

    pub control_wrote : (b : ByteCount) → written ≡ Ok b → (words' : List ℕ) → words' ≡ state_words (hearing_all (state_in words) message) → Left (control_heard (state_in words) message out) words (Ok (Answer.Answered b)) words' out'
    unfolding control_heard
    control_wrote b f words' w =
        left_by_lem _ words (Ok (Answer.Answered b)) (hearing_all (state_in words) message) words' out' (rw none-lacks (told_wrote (λ n. Ok (Answer.Answered n)) (state_in words) (hearing_all (state_in words) message) out written out' after_hearing_lem b f)) w

    pub control_refused_lem : (x : Refusal) → written ≡ Err x → Left (control_heard (state_in words) message out) words (Err x) words out'
    unfolding control_heard
    control_refused_lem x f =
        left_by_lem _ words (Err x) (state_in words) words out' (rw none-lacks (told_refused (λ n. Ok (Answer.Answered n)) (state_in words) (hearing_all (state_in words) message) out written out' after_hearing_lem x f)) refl

-- ---- a datagram
module _ (words datagram out : List ℕ) where
  pub hear_unfit : state_fits (state_in words) ≡ false → (answer : Result Answer Refusal) → answer ≡ Err (record { number = OUTSIDE-LIMITS; place = 0 }) → Left (heard (state_in words) datagram out) words answer words out
  unfolding heard
  hear_unfit e answer f = left_refused _ words OUTSIDE-LIMITS (state_in words) out answer (rw e) f

  module _ (fits : state_fits (state_in words) ≡ true) (plane : Result Plane Refusal) (is : plane ≡ plane_of datagram) where
    pub hear_refused : (r : Refusal) → plane ≡ Err r → Left (heard (state_in words) datagram out) words (Err r) words out
    unfolding heard
    hear_refused r e =
        let of_plane : plane_of datagram ≡ Err r = sym is ∙ e in
        rw (fits, of_plane) (record { answer_is = refl; words_are = refl; output_is = refl })

    module _ (datalink : DatalinkId) (ours : datalink ≡ (state_in words).datalink) where
      pub hear_control : plane ≡ Ok Plane.Control → (reading : ControlReading) → reading ≡ read_control ends.Ips datalink datagram → (answer : Result Answer Refusal) (words' out' : List ℕ)
          → Left (control_read (state_in words) reading out) words answer words' out' → Left (heard (state_in words) datagram out) words answer words' out'
      unfolding heard
      hear_control e reading r answer words' out' l =
          let of_plane : plane_of datagram ≡ Ok Plane.Control = sym is ∙ e in
          let read : reading ≡ read_control ends.Ips (state_in words).datalink datagram = r ∙ ap (λ (d : DatalinkId). read_control ends.Ips d datagram) ours in
          left_as _ _ words answer words' out' (rw (fits, of_plane, ← read)) l

      -- the bytes behind the packet's start are the packet
      carried_bytes : (carried : CarriedReading) → Carries carried datagram → carried.reading.verdict ≡ Verdict.Accepted → length datagram - carried.start ≡ length (packet_of datagram)
      carried_bytes carried carries e = sym (length-drop carried.start datagram) ∙ ap length (carries e)

      same_bytes : (verdict : Verdict) (message : Data) (b d : ByteCount) → (verdict ≡ Verdict.Accepted → b ≡ d)
          → by_verdict verdict (state_in words) out (data_heard (state_in words) message b out) ≡ by_verdict verdict (state_in words) out (data_heard (state_in words) message d out)
      same_bytes Verdict.Accepted message b d f = ap (λ (x : ByteCount). data_heard (state_in words) message x out) (f refl)
      same_bytes Verdict.OtherPlane message b d f = refl
      same_bytes (Verdict.Refused r) message b d f = refl

      pub hear_data : plane ≡ Ok Plane.Data → (carried : CarriedReading) → carried ≡ read_carried ends.Ips datalink datagram → Carries carried datagram → (answer : Result Answer Refusal) (words' out' : List ℕ)
          → Left (data_read (state_in words) carried.reading (record { 0 = length datagram - carried.start }) out) words answer words' out' → Left (heard (state_in words) datagram out) words answer words' out'
      unfolding heard read_carried carried_reading
      hear_data e carried r carries answer words' out' l =
          let of_plane : plane_of datagram ≡ Ok Plane.Data = sym is ∙ e in
          let read : carried.reading ≡ read_data ends.Ips (state_in words).datalink datagram = ap (λ (x : CarriedReading). x.reading) r ∙ ap (λ (d : DatalinkId). read_data ends.Ips d datagram) ours in
          left_as _ _ words answer words' out'
          (rw (fits, of_plane, ← read)
          (sym (same_bytes carried.reading.verdict carried.reading.message (record { 0 = length datagram - carried.start }) (record { 0 = length (packet_of datagram) }) (λ a. ap {B = ByteCount} (λ (n : ℕ). record { 0 = n }) (carried_bytes carried carries a)))))
          l

      pub start_within : (carried : CarriedReading) → carried ≡ read_carried ends.Ips datalink datagram → carried.start ≤ length datagram
      unfolding read_carried carried_reading
      start_within carried r = rw r (within_by (read_data ends.Ips datalink datagram).verdict)
        where
          within_by : (verdict : Verdict) → start_with verdict (length datagram - length (packet_of datagram)) (length datagram) ≤ length datagram
          within_by Verdict.Accepted = omega arith
          within_by Verdict.OtherPlane = omega arith
          within_by (Verdict.Refused refusal) = omega arith
