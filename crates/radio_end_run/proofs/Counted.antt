-- A run in numbers that never wrap. Assumes nothing.
use Rattle.std.specs.Prelude.{Option, Some, None, Result, Ok, Err}
use Rattle.quantity.specs.declared.refusal.Refusal.{Refusal}
use Rattle.meaning.specs.declared.message.Plane.{Plane}
use Prim.Native.Nat.{ℕ, ◌^◌, ◌≤◌, ◌<◌}
use mathlib.Core.Bool.{Bool, true, false, cond}
use mathlib.Core.List.Memᴰ
use mathlib.Core.List.{List, [], ◌∷◌, ◌++◌, Memᴰ}
use mathlib.Core.Logic.{⊎_elim}
use mathlib.Core.Path.{◌≡◌, refl, sym, ap, ap₂, subst, ◌∙◌}
use native.Mathlib.Omega.{arith}
use lib.Dec.{eqb}
use lib.ListN.{length}
use Rattle.quantity.specs.declared.count.ByteCount.{ByteCount}
use Rattle.quantity.specs.declared.count.DatalinkId.{DatalinkId}
use Rattle.quantity.specs.declared.count.FlowSequence.{FlowSequence}
use Rattle.quantity.specs.Window.{sequence_at}
use Rattle.wire.specs.Numbers.{Octets}
use Rattle.meaning.specs.declared.message.End.TheVariants as ends
use Rattle.meaning.specs.declared.message.Window.{Window}
use Rattle.reader.specs.Readings.{Verdict, DataReading, read_control, read_data, plane_of, packet_of}
use Rattle.acceptance.proofs.Data.{data_account}
use Rattle.roundtrip.specs.Values.{SequenceWord, CountedWord, DataValue}
use Rattle.roundtrip.proofs.HeldData.{data_value}
use Rattle.roundtrip.proofs.Writable.{control_is_value}
use Rattle.radio_flow.specs.Granting.{allowance_of, window_from, window_of}
use Rattle.radio_flow.specs.Numbers.{heard_all, number_of, larger, number_after}
use Rattle.radio_flow.proofs.Numbers.{heard_number, highest_number, never_falls, none_above, one_of_them, allowance_is, window_stands, window_distance}
use Rattle.radio_end_state.specs.declared.channel.Setting.{Setting}
use Rattle.radio_end_state.specs.declared.channel.Channel.{Channel}
use Rattle.radio_end_state.specs.Channel.{window_now}
use Rattle.radio_end_state.specs.State.{State, channel_at}
use Rattle.radio_end_state.specs.Calls.{sequence_in, channel_named, sequence_counted}
use Rattle.radio_end_run.specs.Run.{Call, hear, status, queued, context, link, tell, state_after, states_after, accepted_by, stated, carried, if_read, on_plane, received_in, stated_of, given, heard_by, heard_through, queued_through, status_through, bytes_in, BytesIn}
use Rattle.radio_end_run.specs.Promised.{Largest, Grants}
use Rattle.radio_end_run.proofs.Runs.{run, through_both}

-- ---- a word that is heard is a number of 32 bits
data_is_value : (datalink : DatalinkId) (datagram : List ℕ) → Octets datagram → (read_data ends.Ips datalink datagram).verdict ≡ Verdict.Accepted → DataValue (read_data ends.Ips datalink datagram).message
data_is_value datalink datagram octets e =
    let account = data_account ends.Ips datalink datagram octets in
    let options = account.0.0 e in
    subst (λ (r : DataReading). DataValue r.message) (sym (account.1 options.0 options.1)) (data_value ends.Ips datalink datagram octets options.0 options.1)

counted_word : (q : Option (ℕ × FlowSequence)) → CountedWord q → SequenceWord (sequence_counted q)
counted_word None h = tt
counted_word (Some (id, sequence)) h = h

own_word : (b : Bool) (q : Option FlowSequence) → SequenceWord q → SequenceWord (cond b q None)
own_word true q h = h
own_word false q h = tt

received_word : (id : ℕ) (datalink : DatalinkId) (datagram : List ℕ) → Octets datagram → SequenceWord (stated_of id (received_in datalink datagram))
unfolding received_in sequence_in
received_word id datalink datagram octets = plane (plane_of datagram)
  where
    control : (v : Verdict) → (read_control ends.Ips datalink datagram).verdict ≡ v → SequenceWord (stated_of id (if_read v (stated (read_control ends.Ips datalink datagram).message)))
    control Verdict.Accepted e = (control_is_value ends.Ips datalink datagram octets e).sequence_words id
    control Verdict.OtherPlane e = tt
    control (Verdict.Refused refusal) e = tt

    data' : (v : Verdict) → (read_data ends.Ips datalink datagram).verdict ≡ v
        → SequenceWord (stated_of id (if_read v (carried (read_data ends.Ips datalink datagram).message (record { 0 = length (packet_of datagram) }))))
    data' Verdict.Accepted e =
        let message = (read_data ends.Ips datalink datagram).message in
        own_word (eqb (channel_named message.channel) id) (sequence_counted message.sequence) (counted_word message.sequence (data_is_value datalink datagram octets e).sequence_word)
    data' Verdict.OtherPlane e = tt
    data' (Verdict.Refused refusal) e = tt

    plane : (p : Result Plane Refusal)
        → SequenceWord (stated_of id (on_plane p (if_read (read_control ends.Ips datalink datagram).verdict (stated (read_control ends.Ips datalink datagram).message))
        (if_read (read_data ends.Ips datalink datagram).verdict (carried (read_data ends.Ips datalink datagram).message (record { 0 = length (packet_of datagram) })))))
    plane (Ok Plane.Control) = control _ refl
    plane (Ok Plane.Data) = data' _ refl
    plane (Err refusal) = tt

given_small : (q : Option FlowSequence) → SequenceWord q → (w : FlowSequence) → Memᴰ w (given q) → w.0 < 2 ^ 32
given_small None h w m = absurd (Memᴰ.not-nil m)
given_small (Some sequence) h w m = rw (Memᴰ.eq_of_singleton m) h

accepted_small : (b : Bool) (q : Option FlowSequence) → SequenceWord q → (w : FlowSequence) → Memᴰ w (cond b (given q) []) → w.0 < 2 ^ 32
accepted_small true q h w m = given_small q h w m
accepted_small false q h w m = absurd (Memᴰ.not-nil m)

pub heard_small : (c : Call) → bytes_in c → (s : State) (id : ℕ) (w : FlowSequence) → Memᴰ w (heard_by c s id) → w.0 < 2 ^ 32
unfolding heard_by
heard_small (hear datagram out) bytes s id w m =
    accepted_small (accepted_by (hear datagram out) s) (stated_of id (received_in s.datalink datagram)) (received_word id s.datalink datagram bytes) w m
heard_small (status own value out) bytes s id w m = absurd (Memᴰ.not-nil m)
heard_small (queued own number out) bytes s id w m = absurd (Memᴰ.not-nil m)
heard_small (context k out) bytes s id w m = absurd (Memᴰ.not-nil m)
heard_small (link instance) bytes s id w m = absurd (Memᴰ.not-nil m)
heard_small (tell out) bytes s id w m = absurd (Memᴰ.not-nil m)

pub run_small : (cs : List Call) → BytesIn cs → (s : State) (id : ℕ) (w : FlowSequence) → Memᴰ w (heard_through cs s id) → w.0 < 2 ^ 32
run_small [] bytes s id w m = absurd (Memᴰ.not-nil m)
run_small (c ∷ cs) bytes s id w m =
    ⊎_elim (λ (n : Memᴰ w (heard_by c s id)). heard_small c bytes.0 s id w n)
    (λ (n : Memᴰ w (heard_through cs (state_after c s) id)). run_small cs bytes.1 (state_after c s) id w n)
    (Memᴰ.append_cases (heard_by c s id) m)

-- ---- the highest number, one word after another
all_numbers : (h : ℕ) (ws : List FlowSequence) → ((w : FlowSequence) → Memᴰ w ws → w.0 < 2 ^ 32) → heard_all (Some (sequence_at h)) ws ≡ Some (sequence_at (number_after h ws))
all_numbers h [] small = refl
all_numbers h (w ∷ ws) small =
    rw (heard_number h w (small w (Memᴰ.head refl))) (all_numbers (larger h (number_of h w)) ws (λ v m. small v (Memᴰ.tail m)))

number_both : (h : ℕ) (ws vs : List FlowSequence) → number_after h (ws ++ vs) ≡ number_after (number_after h ws) vs
number_both h [] vs = refl
number_both h (w ∷ ws) vs = number_both (larger h (number_of h w)) ws vs

-- it never falls along a run: calls behind others hear more, and the number after them is no smaller
pub along_run : (cs ds : List Call) (s : State) (id : ℕ) (first : FlowSequence) (later : List FlowSequence) → heard_through cs s id ≡ first ∷ later
    → (heard_through (cs ++ ds) s id ≡ first ∷ (later ++ heard_through ds (states_after cs s) id))
    × (number_after first.0 later ≤ number_after first.0 (later ++ heard_through ds (states_after cs s) id))
along_run cs ds s id first later e =
    let more = heard_through ds (states_after cs s) id in (
      through_both cs ds s id ∙ ap (λ (ws : List FlowSequence). ws ++ more) e,
      rw (number_both first.0 later more) (never_falls (number_after first.0 later) more),
    )

largest : (first : ℕ) (later : List FlowSequence) → Largest first later (number_after first later)
largest first later = record { least = never_falls first later; none_above = none_above first later; one_of_them = one_of_them first later }

-- ---- the window of a channel
module _ (c : Channel) where
  plain_absent : c.setting.controlled ≡ false → window_now c ≡ None
  unfolding window_now window_of
  plain_absent k = rw k

  unheard_empty : c.setting.controlled ≡ true → c.highest ≡ None → window_now c ≡ Some Window.Empty
  unfolding window_now window_of
  unheard_empty k h = rw (k, h)

  heard_grants : (number : ℕ) (k : Setting) (bytes : ByteCount) → c.setting ≡ k → c.queued ≡ bytes → k.controlled ≡ true → c.highest ≡ Some (sequence_at number)
      → Grants c number k.watermark.0 k.throughput.0 bytes.0
  unfolding window_now window_of
  heard_grants number k bytes e f controlled h =
      let a = allowance_of k.watermark k.throughput bytes in
      let is = allowance_is k.watermark k.throughput bytes in
      let kind : c.setting.controlled ≡ true = ap (λ (x : Setting). x.controlled) e ∙ controlled in
      let same : allowance_of c.setting.watermark c.setting.throughput c.queued ≡ a = ap₂ (λ (x : Setting) (y : ByteCount). allowance_of x.watermark x.throughput y) e f in
      record {
        window = window_from (sequence_at number) a;
        allowance = a.0;
        stated = rw (kind, h, same);
        stands = window_stands number a is.most;
        exactly = is;
        distance = window_distance (sequence_at number) a (omega arith) is.most;
      }

-- ANY SEQUENCE OF CALLS, for the channel at an index
module _ (cs : List Call) (s : State) (index : ℕ) (inside : index < length s.channels) where
  abbrev before : Channel
  before = channel_at s index

  abbrev after : Channel
  after = channel_at (states_after cs s) index

  abbrev heard : List FlowSequence
  heard = heard_through cs s before.setting.id

  -- ID, kind, watermark and throughput never change
  pub run_settings : after.setting ≡ before.setting
  run_settings = (run cs s index inside).setting

  -- an accepted data message of the channel adds its packet's length, an accepted `queued` of it sets the number, nothing else changes it; a status likewise
  pub run_queued : after.queued ≡ queued_through cs s before.setting.id before.queued
  run_queued = (run cs s index inside).queued_is

  pub run_status : after.status ≡ status_through cs s before.setting.id before.status
  run_status = (run cs s index inside).status_is

  pub run_plain : before.setting.controlled ≡ false → (after.highest ≡ before.highest) × (window_now after ≡ None)
  run_plain k = ((run cs s index inside).plain k, plain_absent after (ap (λ (x : Setting). x.controlled) run_settings ∙ k))

  module _ (controlled : before.setting.controlled ≡ true) where
    still : after.setting.controlled ≡ true
    still = ap (λ (x : Setting). x.controlled) run_settings ∙ controlled

    pub run_highest : after.highest ≡ heard_all before.highest heard
    run_highest = (run cs s index inside).highest controlled

    -- until a sequence has been heard
    pub run_unheard : before.highest ≡ None → heard ≡ [] → (after.highest ≡ None) × (window_now after ≡ Some Window.Empty)
    run_unheard none silent =
        let same : after.highest ≡ None = run_highest ∙ rw (silent, none) in
        (same, unheard_empty after still same)

    -- the window at a highest number, by the configuration and the bytes queued
    pub run_window : (number : ℕ) → after.highest ≡ Some (sequence_at number)
        → Grants after number before.setting.watermark.0 before.setting.throughput.0 (queued_through cs s before.setting.id before.queued).0
    run_window number h = heard_grants after number before.setting _ run_settings run_queued controlled h

    module _ (bytes : BytesIn cs) where
      small : (w : FlowSequence) → Memᴰ w heard → w.0 < 2 ^ 32
      small = run_small cs bytes s before.setting.id

      -- THE FIRST WORD STARTS THE NUMBER; the kept word is the low 32 bits of the largest number since
      pub run_number : (first : FlowSequence) (later : List FlowSequence) → before.highest ≡ None → heard ≡ first ∷ later
          → (after.highest ≡ Some (sequence_at (number_after first.0 later))) × Largest first.0 later (number_after first.0 later)
      run_number first later none e =
          let each : (w : FlowSequence) → Memᴰ w (first ∷ later) → w.0 < 2 ^ 32 = λ w m. small w (rw e m) in
          (run_highest ∙ rw (none, e) (highest_number first later (each first (Memᴰ.head refl)) (λ w m. each w (Memᴰ.tail m))), largest first.0 later)

      -- and from a number on: it never falls
      pub run_never_falls : (number : ℕ) → before.highest ≡ Some (sequence_at number)
          → (after.highest ≡ Some (sequence_at (number_after number heard))) × Largest number heard (number_after number heard)
      run_never_falls number h = (run_highest ∙ rw h (all_numbers number heard small), largest number heard)
