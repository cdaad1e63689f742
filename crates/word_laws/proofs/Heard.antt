-- A datagram from the radio, whatever it is, leaves every word but those of status and flow state, Link Instance and Context, and the pacer's clock and last heard; an
-- accepted control message's own Context stands in its words. Assumes nothing.
use Rattle.std.specs.Prelude.{Option, Some, None}
use Rattle.meaning.specs.declared.message.ContextBytes.{ContextBytes}
use Prim.Native.Nat.{ℕ, ◌+◌, ◌*◌, ◌≤◌, ◌<◌}
use mathlib.Core.Bool.{Bool, true, false, cond, and-eq-true_iff}
use mathlib.Core.Logic.{⊎_elim}
use mathlib.Core.List.{List}
use mathlib.Core.Path.{◌≡◌, refl, sym, ap, ◌∙◌}
use native.Mathlib.Omega.{arith}
use lib.ListN.{length, get_or}
use Rattle.meaning.specs.declared.message.Window.{Window}
use Rattle.meaning.specs.declared.message.Control.{Control}
use Rattle.pacer.specs.declared.Pacer.{Pacer}
use Rattle.pacer.specs.Pacing.{heard_at, moved_to}
use Rattle.ips_state.specs.Limits.{state_fits}
use Rattle.ips_radio.specs.Heard.{status_in, window_in}
use Rattle.ips_run.specs.Run.{radio, Received, dropped, carried, stated, received_in, in_time}
use Rattle.ips_calls.specs.Replies.{EndpointReply}
use Rattle.ips_words.specs.Words.{slot, pacer_in, state_in, put_pacer}
use Rattle.ips_words.proofs.Whole.{slot_length, slot_word, slot_room, fit_readable}
use Rattle.ips_words_radio.specs.HeardWords.{told_slot, heard_slots, instance_heard, context_heard, heard_words, received_words}
use Rattle.ips_words_radio.proofs.Parts.{part_before, part_behind, instance_before, context_before_lem, tag_written, value_written, size_written}
use Rattle.ips_words_radio.proofs.Hearing.{head_there, all_passed, slots_room, instance_room}
use Rattle.ips_words_radio.proofs.Heard.{heard_pacer, heard_codes, heard_slot_lem, heard_length}
use Rattle.ips_words.proofs.Pacers.{paced_length, paced_before, paced_behind}
use Rattle.endpoint.specs.Lent.{Lent, lent, after_in_under}
use Rattle.endpoint.specs.Calls.{PerformedIn}
use Rattle.word_laws.specs.RadioLeaves.{ChannelsLeft, RadioLeaves, ContextLeft, without, with_bytes}
use Rattle.word_laws.proofs.PacerWords.{timely_by, eight_or_nine, clock_written, due_written, heard_written}

pub none_left : (l : Lent) → ChannelsLeft l l
none_left l = record { long = refl; setting = λ i j h b. refl; rest = λ i j h a b. refl; memory = refl }

nothing_leaves : (l : Lent) → RadioLeaves l l
nothing_leaves l = record { channels = none_left l; head = λ k h. refl; waits = λ k h b. refl; due = refl; codes = refl }

-- ---- words in which each channel was told something
module _ (words words' : List ℕ) (fits : state_fits (state_in words) ≡ true) (same_long : length words' ≡ length words) (status : ℕ → Option ℕ) (window : ℕ → Option Window)
    (told : (i : ℕ) → i < get_or words 1 0 → slot words' i ≡ told_slot status window (slot words i)) where
  -- a word of a channel that stands in its slot stands among all the words
  pub in_slot : (i j : ℕ) → i < get_or words 1 0 → j < 74 → {n : ℕ} → get_or (told_slot status window (slot words i)) j 0 ≡ n → get_or words' (14 + 74 * i + j) 0 ≡ n
  in_slot i j h b e = sym (slot_word words' i j (omega arith)) ∙ ap (λ (w : List ℕ). get_or w j 0) (told i h) ∙ e

  pub long_slot : (i : ℕ) → i < get_or words 1 0 → length (slot words i) ≡ 74
  long_slot i h = slot_length words i (slot_room words (fit_readable words fits) i h)

  pub told_leaves : (memory : List ℕ) → ChannelsLeft (lent words memory) (lent words' memory)
  told_leaves memory = record {
    long = same_long;
    setting = λ i j h b. in_slot i j h (omega arith) (part_before _ _ (slot words i) (long_slot i h) j (omega arith) ∙ slot_word words i j (omega arith));
    rest = λ i j h a b. in_slot i j h b (part_behind _ _ (slot words i) (long_slot i h) j (omega arith) ∙ slot_word words i j (omega arith));
    memory = refl;
  }

-- ---- the pacer's times behind it
module _ (words : List ℕ) (p : Pacer) where
  pub paced_channels : (l : Lent) (memory : List ℕ) → ChannelsLeft l (lent words memory) → ChannelsLeft l (lent (put_pacer words p) memory)
  paced_channels l memory c = record {
    long = paced_length words p ∙ c.long;
    setting = λ i j h b. paced_behind words p (14 + 74 * i + j) (omega arith) ∙ c.setting i j h b;
    rest = λ i j h a b. paced_behind words p (14 + 74 * i + j) (omega arith) ∙ c.rest i j h a b;
    memory = c.memory;
  }

-- ---- an accepted message
module _ (message : Control) (words : List ℕ) (fits : state_fits (state_in words) ≡ true) where
  message_channels : (memory : List ℕ) → ChannelsLeft (lent words memory) (lent (heard_words message words) memory)
  message_channels = told_leaves words (heard_words message words) fits (heard_length message words fits) (status_in message) (window_in message) (heard_slot_lem message words fits)

  head_stands : (k : ℕ) → k < 2 → get_or (heard_words message words) k 0 ≡ get_or words k 0
  unfolding heard_words
  head_stands k h =
      let one : List ℕ = heard_slots message words (get_or words 1 0) in
      context_before_lem (instance_heard message.instance one) message.context k (omega arith)
      ∙ instance_before one message.instance k (omega arith)
      ∙ (all_passed (status_in message) (window_in message) words fits).head k (omega arith)

  context_left : ContextLeft (heard_words message words) message.context
  unfolding heard_words
  context_left = left_by_lem message.context
    where
      before : List ℕ
      before = instance_heard message.instance (heard_slots message words (get_or words 1 0))

      room : 14 ≤ length before
      room = instance_room message.instance (heard_slots message words (get_or words 1 0)) before (slots_room message words _ fits refl) refl

      left_by_lem : (given : Option (ContextBytes × ℕ)) → ContextLeft (context_heard given before) given
      left_by_lem None = without (tag_written before None room) (value_written before None room) (size_written before None room)
      left_by_lem (Some (bytes, size)) =
          let given : Option (ContextBytes × ℕ) = Some (bytes, size) in
          with_bytes (tag_written before given room) (value_written before given room) (size_written before given room)

  -- a word of the pacer, by what stands there
  pacer_word : (field : Pacer → ℕ) → field (pacer_in (heard_words message words)) ≡ field (pacer_in words)
  pacer_word field = ap field (heard_pacer message words fits)

  waits_stand : (k : ℕ) → 7 < k → k < 10 → get_or (heard_words message words) k 0 ≡ get_or words k 0
  waits_stand k low high = ⊎_elim (λ (e : k ≡ 8). rw e (pacer_word (λ p. p.hello))) (λ (e : k ≡ 9). rw e (pacer_word (λ p. p.limit))) (eight_or_nine k low high)

  message_leaves : (time : ℕ) (memory : List ℕ) → RadioLeaves (lent words memory) (lent (put_pacer (heard_words message words) (heard_at time (pacer_in words))) memory)
  unfolding heard_at
  message_leaves time memory =
      let p = heard_at time (pacer_in words) in
      record {
        channels = paced_channels (heard_words message words) p (lent words memory) memory (message_channels memory);
        head = λ k h. paced_before (heard_words message words) p k (omega arith) ∙ head_stands k h;
        waits = λ k low high. paced_before (heard_words message words) p k (omega arith) ∙ waits_stand k low high;
        due = due_written (heard_words message words) p (room_heard time);
        codes = paced_behind (heard_words message words) p 13 (omega arith) ∙ heard_codes message words fits;
      }
    where
      room_heard : ℕ → 14 ≤ length (heard_words message words)
      room_heard time = omega (arith, heard_length message words fits, head_there words fits)

-- ---- a data message writes the clock alone
data_leaves : (words memory : List ℕ) (time : ℕ) → state_fits (state_in words) ≡ true → RadioLeaves (lent words memory) (lent (put_pacer words (moved_to time (pacer_in words))) memory)
unfolding moved_to
data_leaves words memory time fits =
    let p = moved_to time (pacer_in words) in
    record {
      channels = paced_channels words p (lent words memory) memory (none_left (lent words memory));
      head = λ k h. paced_before words p k (omega arith);
      waits = λ k low high. paced_before words p k (omega arith);
      due = due_written words p (head_there words fits);
      codes = paced_behind words p 13 (omega arith);
    }

received_leaves : (words memory : List ℕ) (time : ℕ) → state_fits (state_in words) ≡ true → (r : Received) → RadioLeaves (lent words memory) (lent (received_words time r words) memory)
received_leaves words memory time fits dropped = nothing_leaves (lent words memory)
received_leaves words memory time fits carried = data_leaves words memory time fits
received_leaves words memory time fits (stated m) = message_leaves m words fits time memory

-- THE LAW: of any words, any datagram and any answer
pub radio_other_words : {time : ℕ} {datagram : List ℕ} {l l' : Lent} {x : EndpointReply} → PerformedIn (radio time datagram) l x l' → RadioLeaves l l'
unfolding after_in_under
radio_other_words {time} {datagram} {l} h = rw h.lent_is (go (in_time time (state_in l.words)) refl)
  where
    go : (b : Bool) → in_time time (state_in l.words) ≡ b
        → RadioLeaves l (lent (cond b (received_words time (received_in (state_in l.words).datalink.id datagram) l.words) l.words) l.memory)
    go true f = received_leaves l.words l.memory time ((and-eq-true_iff (state_fits (state_in l.words)) _).0 f).0 (received_in (state_in l.words).datalink.id datagram)
    go false f = nothing_leaves l

-- ---- an accepted control message: its own Context is kept, or none; the pacer's clock and last heard are its time
module _ {time : ℕ} {datagram : List ℕ} {l l' : Lent} {x : EndpointReply} (h : PerformedIn (radio time datagram) l x l') (fitting : state_fits (state_in l.words) ≡ true)
    (on_time : get_or l.words 10 0 ≤ time) where
  timely : in_time time (state_in l.words) ≡ true
  timely = timely_by l.words time fitting on_time

  module _ (m : Control) (e : received_in (state_in l.words).datalink.id datagram ≡ stated m) where
    words_heard : l'.words ≡ put_pacer (heard_words m l.words) (heard_at time (pacer_in l.words))
    unfolding after_in_under
    words_heard = ap (λ (x : Lent). x.words) h.lent_is ∙ rw (timely, e)

    heard_room : 14 ≤ length (heard_words m l.words)
    heard_room = omega (arith, heard_length m l.words fitting, head_there l.words fitting)

    context_stands : {words : List ℕ} (p : Pacer) {given : Option (ContextBytes × ℕ)} → ContextLeft words given → ContextLeft (put_pacer words p) given
    context_stands {words} p (without a b c) =
        without (paced_before words p 5 (omega arith) ∙ a) (paced_before words p 6 (omega arith) ∙ b) (paced_before words p 7 (omega arith) ∙ c)
    context_stands {words} p (with_bytes a b c) =
        with_bytes (paced_before words p 5 (omega arith) ∙ a) (paced_before words p 6 (omega arith) ∙ b) (paced_before words p 7 (omega arith) ∙ c)

    pub radio_context_words : ContextLeft l'.words m.context
    radio_context_words = rw words_heard (context_stands (heard_at time (pacer_in l.words)) (context_left m l.words fitting))

    pub radio_time_words : (get_or l'.words 10 0 ≡ time) × (get_or l'.words 12 0 ≡ time)
    unfolding heard_at
    radio_time_words =
        rw words_heard
        (clock_written (heard_words m l.words) (heard_at time (pacer_in l.words)) heard_room, heard_written (heard_words m l.words) (heard_at time (pacer_in l.words)) heard_room)
