-- Every call leaves a state within the limits within them. Assumes nothing.
use Rattle.std.specs.Prelude.{Option, Some, None, Result, Ok}
use Rattle.quantity.specs.declared.count.LinkInstanceId.{LinkInstanceId}
use Rattle.quantity.specs.declared.count.FlowSequence.{FlowSequence}
use Rattle.meaning.specs.declared.message.ContextBytes.{ContextBytes}
use Prim.Native.Nat.{ℕ, ◌^◌, ◌≤◌, ◌<◌}
use mathlib.Core.Bool.{Bool, true, false, cond, and-eq-true_iff}
use mathlib.Core.List.{List, [], ◌∷◌, map}
use mathlib.Core.Path.{◌≡◌, refl, sym, ap, ap₂, subst, ◌∙◌}
use native.Mathlib.Omega.{arith}
use borrow.Author.Tests.{leb-true, le-leb, lt-ltb}
use lib.Dec.{eqb, leb}
use lib.ListN.{length, get_or, length-map}
use Rattle.quantity.specs.declared.count.ByteCount.{ByteCount}
use Rattle.quantity.specs.declared.count.DatalinkId.{DatalinkId}
use Rattle.quantity.specs.declared.refusal.Refusal.{Refusal}
use Rattle.quantity.specs.Limits.{HIGHEST-STATUS}
use Rattle.wire.specs.Numbers.{Octets}
use Rattle.meaning.specs.declared.message.End.TheVariants as ends
use Rattle.meaning.specs.declared.message.Control.{Control}
use Rattle.meaning.specs.declared.message.Data.{Data}
use Rattle.reader.specs.Readings.{ControlReading, DataReading}
use Rattle.acceptance.proofs.Data.{data_account}
use Rattle.roundtrip.specs.Values.{SequenceWord, CountedWord}
use Rattle.roundtrip.proofs.Writable.{control_is_value}
use Rattle.roundtrip.proofs.HeldData.{data_value}
use Rattle.writable.specs.Allowed.{context_allowed, instance_allowed}
use Rattle.writer.specs.Written.{no_room_of}
use Rattle.radio_flow.specs.Granting.{is_ahead, hearing}
use Rattle.radio_end_state.specs.declared.answer.Answer.{Answer}
use Rattle.radio_end_state.specs.declared.channel.Channel.{Channel}
use Rattle.radio_end_state.specs.State.{State, no_channel, channel_at}
use Rattle.radio_end_state.specs.Limits.{setting_fits, allowance_fits, highest_fits, channel_fits, ids, state_fits, is_configured}
use Rattle.radio_end_state.specs.Message.{message_bytes, differs}
use Rattle.radio_end_state.specs.Calls.{refused_at, status_told, queued_told, context_told, link_told, told, lacks_none, heard}
use Rattle.radio_end_state.proofs.Fit.{channel_fit, fit_facts, fit_state}
use Rattle.radio_end_laws.specs.Plain.{sequence_of, on_channel, each_channel, of_id, status_set, queued_set, counted_sequence, control_taken, context_set, instance_set}
use Rattle.radio_end_state.specs.Each.{EachCall}
use Rattle.radio_end_laws.specs.Given.{Leaves, ControlRead, DataRead, Reading, unread, control_read_lem, data_read_lem}
use Rattle.radio_end_laws.proofs.Ordered.{Speaks, answered_speaks, unasked_speaks, refused_silent, ordered, ordered_state, ordered_message}
use Rattle.radio_end_laws.proofs.Changed.{get_d_map}
use Rattle.radio_end_laws.proofs.Exactly.{status_ordered, queued_ordered, context_ordered, link_ordered, tell_ordered}
use Rattle.radio_end_laws.proofs.Heard.{reads, after_control, control_ordered, channel_of, taken_by, after_data, data_ordered, heard_unread}

-- ---- a channel
-- the highest is one of those heard
hearing_fits : (controlled : Bool) (highest : Option FlowSequence) (stated : Option FlowSequence) → highest_fits highest ≡ true → SequenceWord stated → highest_fits (hearing controlled highest stated) ≡ true
unfolding hearing
hearing_fits false highest stated e w = e
hearing_fits true highest None e w = e
hearing_fits true None (Some q) e w = lt-ltb q.0 (2 ^ 32) w
hearing_fits true (Some h) (Some q) e w = go (is_ahead h q)
  where
    go : (b : Bool) → highest_fits (cond b (Some q) (Some h)) ≡ true
    go true = lt-ltb q.0 (2 ^ 32) w
    go false = e

-- another status of 4 bits, other bytes queued, another word
with_fits : (c : Channel) (status : ℕ) (queued : ByteCount) (highest : Option FlowSequence) → channel_fits c ≡ true → status ≤ 15 → highest_fits highest ≡ true
    → channel_fits (record { setting = c.setting; status = status; queued = queued; highest = highest }) ≡ true
unfolding channel_fits
with_fits c status queued highest e low h =
    let a = (and-eq-true_iff (setting_fits c.setting) _).0 e in
    let b = (and-eq-true_iff (allowance_fits c.setting) _).0 a.1 in
    rw (a.0, b.0, le-leb status HIGHEST-STATUS low) h

-- ---- each channel becomes another with the same ID
module _ (change : Channel → Channel) (keeps : (c : Channel) → channel_fits c ≡ true → channel_fits (change c) ≡ true) (same : (c : Channel) → (change c).setting.id ≡ c.setting.id) where
  ids_same : (cs : List Channel) → ids (map change cs) ≡ ids cs
  unfolding ids
  ids_same [] = refl
  ids_same (c ∷ cs) = ap₂ (λ (n : ℕ) (ns : List ℕ). n ∷ ns) (same c) (ids_same cs)

  each_fits_lem : (s : State) → state_fits s ≡ true → state_fits (each_channel s change) ≡ true
  unfolding channel_at
  each_fits_lem s fits =
      let f = fit_facts s fits in
      let long = length-map s.channels change in
      fit_state (each_channel s change)
      (record {
        datalink = f.datalink;
        some = omega (arith, long, f.some);
        few = omega (arith, long, f.few);
        instance = f.instance;
        context = f.context;
        each = λ i h. let inside : i < length s.channels = omega (arith, h, long) in rw (get_d_map change s.channels i inside) (keeps (get_or s.channels i no_channel) (f.each i inside));
        apart = rw (ids_same s.channels) f.apart;
        primary = rw (ids_same s.channels) f.primary;
      })

-- the channel of an ID does
of_id_fits : (id : ℕ) (change : Channel → Channel) → ((c : Channel) → channel_fits c ≡ true → channel_fits (change c) ≡ true) → ((c : Channel) → (change c).setting.id ≡ c.setting.id)
    → (s : State) → state_fits s ≡ true → state_fits (of_id s id change) ≡ true
of_id_fits id change keeps same = each_fits_lem (on_channel id change) (λ c e. kept (eqb c.setting.id id) c e) (λ c. named (eqb c.setting.id id) c)
  where
    kept : (b : Bool) (c : Channel) → channel_fits c ≡ true → channel_fits (cond b (change c) c) ≡ true
    kept true c e = keeps c e
    kept false c e = e

    named : (b : Bool) (c : Channel) → (cond b (change c) c).setting.id ≡ c.setting.id
    named true c = same c
    named false c = refl

-- ---- what a message's words are
control_words_lem : (datalink : DatalinkId) (datagram : List ℕ) (m : Control) → Octets datagram → ControlRead datalink datagram m → (id : ℕ) → SequenceWord (sequence_of m id)
control_words_lem datalink datagram m octets a id =
    let value = control_is_value ends.Ips datalink datagram octets (ap (λ (r : ControlReading). r.verdict) a.reading) in
    subst (λ (r : ControlReading). SequenceWord (sequence_of r.message id)) a.reading (value.sequence_words id)

data_word : (datalink : DatalinkId) (datagram : List ℕ) (m : Data) → Octets datagram → DataRead datalink datagram m → CountedWord m.sequence
data_word datalink datagram m octets a =
    let account = data_account ends.Ips datalink datagram octets in
    let x = account.0.0 (ap (λ (r : DataReading). r.verdict) a.reading) in
    let value = data_value ends.Ips datalink datagram octets x.0 x.1 in
    subst (λ (r : DataReading). CountedWord r.message.sequence) (sym (account.1 x.0 x.1) ∙ a.reading) value.sequence_word

counted_word : (counted : Option (ℕ × FlowSequence)) → CountedWord counted → SequenceWord (counted_sequence counted)
counted_word None w = tt
counted_word (Some (id, sequence)) w = w

-- a Flow Sequence heard, and bytes queued
heard_fits_channel : (stated : Option FlowSequence) (queued : ByteCount) (c : Channel) → SequenceWord stated → channel_fits c ≡ true
    → channel_fits (record { setting = c.setting; status = c.status; queued = queued; highest = hearing c.setting.controlled c.highest stated }) ≡ true
heard_fits_channel stated queued c w e =
    let f = channel_fit c e in
    with_fits c c.status queued (hearing c.setting.controlled c.highest stated) e f.status (hearing_fits c.setting.controlled c.highest stated f.highest w)

-- ---- a call whose tests stand in their order leaves what it should
module _ (s : State) (out : List ℕ) (fits : state_fits s ≡ true) where
  abbrev short : State → Bool
  short after = no_room_of (length (message_bytes after)) (length out)

  in_order : (say : ByteCount → Result Answer Refusal) → Speaks say → (after : State) → after.datalink ≡ s.datalink → (f n w t l : Bool) → (w ≡ true → state_fits after ≡ true)
      → Leaves s out (ordered say s after out f n w t l)
  in_order say speaks after same f n w t l kept =
      record {
        within = ordered_state say s after out (λ x. state_fits x ≡ true) f n w t l fits (λ p q r. kept r);
        datalink = ordered_state say s after out (λ x. x.datalink ≡ s.datalink) f n w t l refl (λ p q r. same);
        message = ordered_message say s after out speaks f n w t l;
      }

  -- an answer, what it leaves
  refused_leaves : (refusal : Refusal) → Leaves s out (refused_at refusal s out)
  refused_leaves refusal = record { within = fits; datalink = refl; message = λ n e. absurd (refused_silent e) }

  status_leaves : (id value : ℕ) → Leaves s out (status_told s id value out)
  status_leaves id value =
      rw (status_ordered s out id value)
      (in_order (λ n. Ok (Answer.Unasked n)) unasked_speaks (of_id s id (status_set value)) refl (state_fits s) (is_configured s id) (leb value HIGHEST-STATUS) (differs s (of_id s id (status_set value))) (short (of_id s id (status_set value)))
      (λ w. of_id_fits id (status_set value) (λ c e. with_fits c value c.queued c.highest e (leb-true value HIGHEST-STATUS w) (channel_fit c e).highest) (λ c. refl) s fits))

  queued_leaves : (id : ℕ) (bytes : ByteCount) → Leaves s out (queued_told s id bytes out)
  queued_leaves id bytes =
      rw (queued_ordered s out id bytes.0)
      (in_order (λ n. Ok (Answer.Unasked n)) unasked_speaks (of_id s id (queued_set bytes.0)) refl (state_fits s) (is_configured s id) true (differs s (of_id s id (queued_set bytes.0))) (short (of_id s id (queued_set bytes.0)))
      (λ w. of_id_fits id (queued_set bytes.0) (λ c e. with_fits c c.status bytes c.highest e (channel_fit c e).status (channel_fit c e).highest) (λ c. refl) s fits))

  context_leaves : (context : Option (ContextBytes × ℕ)) → Leaves s out (context_told s context out)
  unfolding channel_at
  context_leaves context =
      rw (context_ordered s out context)
      (in_order (λ n. Ok (Answer.Unasked n)) unasked_speaks (context_set s context) refl (state_fits s) true (context_allowed ends.Radio context) (differs s (context_set s context)) (short (context_set s context))
      (λ w. let k = fit_facts s fits in fit_state (context_set s context) (record { datalink = k.datalink; some = k.some; few = k.few; instance = k.instance; context = w; each = k.each; apart = k.apart; primary = k.primary })))

  link_leaves : (instance : Option (LinkInstanceId × ℕ)) → Leaves s out (link_told s instance out)
  unfolding channel_at
  link_leaves instance =
      rw (link_ordered s out instance)
      (in_order (λ n. Ok (Answer.Unasked n)) unasked_speaks (instance_set s instance) refl (state_fits s) true (instance_allowed ends.Radio instance) false (short (instance_set s instance))
      (λ w. let k = fit_facts s fits in fit_state (instance_set s instance) (record { datalink = k.datalink; some = k.some; few = k.few; instance = w; context = k.context; each = k.each; apart = k.apart; primary = k.primary })))

  tell_leaves : Leaves s out (told s out)
  tell_leaves = rw (tell_ordered s out) (in_order (λ n. Ok (Answer.Answered n)) answered_speaks s refl (state_fits s) true true true (short s) (λ w. fits))

  -- of a datagram of bytes
  heard_leaves : (datagram : List ℕ) → Octets datagram → Leaves s out (heard s datagram out)
  heard_leaves datagram octets = go (reads s.datalink datagram)
    where
      go : Reading s.datalink datagram → Leaves s out (heard s datagram out)
      go (unread refusal w) = rw (heard_unread s datagram out fits refusal w) (refused_leaves refusal)
      go (control_read_lem m a) =
          rw (control_ordered s datagram out m a)
          (in_order (λ n. Ok (Answer.Answered n)) answered_speaks (after_control s datagram out m a) refl (state_fits s) (lacks_none s m) true true (short (after_control s datagram out m a))
          (λ w. each_fits_lem (control_taken m) (λ c e. heard_fits_channel (sequence_of m c.setting.id) c.queued c (control_words_lem s.datalink datagram m octets a c.setting.id) e) (λ c. refl) s fits))
      go (data_read_lem m a) =
          rw (data_ordered s datagram out m a)
          (in_order (λ n. Ok (Answer.Unasked n)) unasked_speaks (after_data s datagram out m a) refl (state_fits s) (is_configured s (channel_of s datagram out m a)) true (differs s (after_data s datagram out m a)) (short (after_data s datagram out m a))
          (λ w. of_id_fits (channel_of s datagram out m a) (taken_by s datagram out m a) (λ c e. heard_fits_channel (counted_sequence m.sequence) (taken_by s datagram out m a c).queued c (counted_word m.sequence (data_word s.datalink datagram m octets a)) e) (λ c. refl) s fits))

  -- WHAT EVERY CALL LEAVES
  pub call_leaves : EachCall Octets s out (Leaves s out)
  call_leaves = record { status = status_leaves; queued = queued_leaves; context = context_leaves; link = link_leaves; tell = tell_leaves; hear = heard_leaves }

  -- A STATE WITHIN THE LIMITS stays within them
  pub kept_fits : EachCall Octets s out (λ r. state_fits r.state ≡ true)
  kept_fits =
      record {
        status = λ id value. (status_leaves id value).within;
        queued = λ id bytes. (queued_leaves id bytes).within;
        context = λ context. (context_leaves context).within;
        link = λ instance. (link_leaves instance).within;
        tell = tell_leaves.within;
        hear = λ datagram octets. (heard_leaves datagram octets).within;
      }
