-- The words after a radio message, or a silence, say the state after it, and still say something. Assumes nothing.
use Rattle.std.specs.Prelude.{Option, Some, None}
use Prim.Native.Nat.{ℕ, zero, suc, ◌^◌, ◌≤◌, ◌<◌}
use mathlib.Core.Bool.{true}
use mathlib.Core.List.{List, ◌∷◌, map}
use mathlib.Core.Path.{◌≡◌, refl, sym, ap, ap₂, ◌∙◌}
use native.Mathlib.Omega.{arith}
use lib.ListN.{length}
use Rattle.facts.specs.Tables.{tabulate}
use Rattle.meaning.specs.declared.message.Window.{Window}
use Rattle.meaning.specs.declared.message.Control.{Control}
use Rattle.flow.specs.Counting.{flow_after}
use Rattle.ips_channel.specs.declared.state.Channel.{Channel}
use Rattle.ips_channel.specs.Channel.{heard_of}
use Rattle.ips_state.specs.Limits.{state_fits}
use Rattle.ips_radio.specs.Heard.{status_in, window_in, heard_from, heard_by, silenced, silenced_by, kept_instance}
use Rattle.ips_words.specs.Words.{HEAD, SLOT, ID, DATALINK-WORD, COUNT-WORD, INSTANCE-TAG, INSTANCE-VALUE, INSTANCE-LENGTH, CONTEXT-TAG, CONTEXT-VALUE, CONTEXT-LENGTH, HELLO-WORD, LIMIT-WORD, CLOCK-WORD, DUE-WORD, HEARD-WORD, CODES-WORD, words_for, word, slot, instance_of, context_of, channel_in, pacer_in, state_of, spelled, readable, state_in, status_value, flow_window}
use Rattle.ips_words.proofs.Whole.{slot_length, Readable, readable_facts, readable_by, slot_room, says, fit_readable}
use Rattle.ips_words_radio.specs.HeardWords.{told_slot, heard_slot, heard_slots, silenced_slot, silenced_words, instance_heard, context_heard, heard_words, Slender}
use Rattle.ips_words_radio.proofs.Parts.{part_heard_lem, part_spelled, instance_length_lem, instance_slot, instance_before, instance_behind, instance_said_lem, instance_tag, context_length_lem, context_slot, context_before_lem, context_behind, context_said_lem, context_tag_lem}
use Rattle.ips_words_radio.proofs.Hearing.{Passed, all_passed, slots_room, instance_room}

tabulate_mapped : {A B : Type 0} (h : A → B) (n : ℕ) (f : ℕ → A) (g : ℕ → B) → ((i : ℕ) → i < n → g i ≡ h (f i)) → tabulate n g ≡ map h (tabulate n f)
unfolding tabulate
tabulate_mapped h zero f g e = refl
tabulate_mapped {B = B} h (suc n) f g e =
    ap₂ (λ (x : B) (xs : List B). x ∷ xs) (e 0 (omega arith)) (tabulate_mapped h n (λ k. f (suc k)) (λ k. g (suc k)) (λ i l. e (suc i) (omega arith)))

-- ---- of each channel only status and flow state are written: the channels that such words say have heard it, and each is spelled
module _ (status : ℕ → Option ℕ) (window : ℕ → Option Window) (words : List ℕ) (t : state_fits (state_in words) ≡ true) where
  abbrev count : ℕ
  count = word words COUNT-WORD

  says_something : readable words ≡ true
  says_something = fit_readable words t

  facts : Readable words
  facts = readable_facts words says_something

  long_slot : (i : ℕ) → i < count → length (slot words i) ≡ SLOT
  long_slot i h = slot_length words i (slot_room words says_something i h)

  module _ (words' : List ℕ) (slots : (i : ℕ) → i < count → slot words' i ≡ told_slot status window (slot words i)) where
    channel_told : (i : ℕ) → i < count → channel_in (slot words' i) ≡ heard_of (channel_in (slot words i)) (status (word (slot words i) ID)) (window (word (slot words i) ID))
    channel_told i h = rw (slots i h) (part_heard_lem _ _ (slot words i) (long_slot i h))

    channels_told : tabulate count (λ i. channel_in (slot words' i)) ≡ map (λ (c : Channel). heard_of c (status c.setting.id) (window c.setting.id)) (tabulate count (λ i. channel_in (slot words i)))
    unfolding channel_in
    channels_told =
        tabulate_mapped (λ (c : Channel). heard_of c (status c.setting.id) (window c.setting.id)) count (λ i. channel_in (slot words i)) (λ i. channel_in (slot words' i)) channel_told

    slots_spelled : ((id : ℕ) → status_value (status id) < 256) → ((id : ℕ) → flow_window (flow_after (window id)) < 2 ^ 32) → (i : ℕ) → i < count → spelled (slot words' i) ≡ true
    slots_spelled narrow low i h =
        rw (slots i h) (part_spelled _ _ (slot words i) (long_slot i h) (facts.each i h) (narrow (word (slot words i) ID)) (low (word (slot words i) ID)))

-- ---- a radio control message
module _ (message : Control) (words : List ℕ) (t : state_fits (state_in words) ≡ true) where
  abbrev one : List ℕ
  one = heard_slots message words (word words COUNT-WORD)

  abbrev two : List ℕ
  two = instance_heard message.instance one

  abbrev last : List ℕ
  last = context_heard message.context two

  p : Passed (status_in message) (window_in message) words (word words COUNT-WORD)
  p = all_passed (status_in message) (window_in message) words t

  one_room : HEAD ≤ length one
  one_room = slots_room message words one t refl

  two_room : HEAD ≤ length two
  two_room = instance_room message.instance one two one_room refl

  -- every word before those of the Link Instance stands, and every one behind those of the Context
  head_kept : (k : ℕ) → k < INSTANCE-TAG → word last k ≡ word words k
  head_kept k h = context_before_lem two message.context k (omega arith) ∙ instance_before one message.instance k h ∙ p.head k (omega arith)

  pacer_kept : (k : ℕ) → CONTEXT-LENGTH < k → k < HEAD → word last k ≡ word words k
  pacer_kept k h l = context_behind two message.context k h ∙ instance_behind one message.instance k (omega arith) ∙ p.head k l

  instance_kept : instance_of (word last INSTANCE-TAG) (word last INSTANCE-VALUE) (word last INSTANCE-LENGTH)
      ≡ kept_instance (instance_of (word words INSTANCE-TAG) (word words INSTANCE-VALUE) (word words INSTANCE-LENGTH)) message.instance
  instance_kept =
      rw (context_before_lem two message.context INSTANCE-TAG (omega arith), context_before_lem two message.context INSTANCE-VALUE (omega arith), context_before_lem two message.context INSTANCE-LENGTH (omega arith))
      (instance_said_lem one one_room message.instance ∙ rw (p.head INSTANCE-TAG (omega arith), p.head INSTANCE-VALUE (omega arith), p.head INSTANCE-LENGTH (omega arith)))

  context_kept : context_of (word last CONTEXT-TAG) (word last CONTEXT-VALUE) (word last CONTEXT-LENGTH) ≡ message.context
  context_kept = context_said_lem two message.context two_room

  pub heard_pacer : pacer_in (heard_words message words) ≡ pacer_in words
  unfolding heard_words
  heard_pacer =
      rw (pacer_kept HELLO-WORD (omega arith) (omega arith), pacer_kept LIMIT-WORD (omega arith) (omega arith), pacer_kept CLOCK-WORD (omega arith) (omega arith), pacer_kept DUE-WORD (omega arith) (omega arith), pacer_kept HEARD-WORD (omega arith) (omega arith))

  pub heard_codes : word (heard_words message words) CODES-WORD ≡ word words CODES-WORD
  unfolding heard_words
  heard_codes = pacer_kept CODES-WORD (omega arith) (omega arith)

  -- of each channel only status and flow state are written
  pub heard_slot_lem : (i : ℕ) → i < word words COUNT-WORD → slot (heard_words message words) i ≡ heard_slot message (slot words i)
  unfolding heard_words
  heard_slot_lem i h = context_slot two message.context i ∙ instance_slot one message.instance i ∙ p.done i h

  pub heard_length : length (heard_words message words) ≡ length words
  unfolding heard_words
  heard_length = context_length_lem two message.context ∙ instance_length_lem one message.instance ∙ p.long

  channels_heard : tabulate (word words COUNT-WORD) (λ i. channel_in (slot (heard_words message words) i)) ≡ map (heard_from message) (tabulate (word words COUNT-WORD) (λ i. channel_in (slot words i)))
  unfolding heard_from
  channels_heard = channels_told (status_in message) (window_in message) words t (heard_words message words) heard_slot_lem

  -- THE LAW: the words say the state that has heard the message
  pub heard_state : state_of (heard_words message words) ≡ heard_by message (state_of words)
  unfolding heard_words state_of heard_by
  heard_state = rw (head_kept DATALINK-WORD (omega arith), head_kept COUNT-WORD (omega arith), pacer_kept CODES-WORD (omega arith) (omega arith), instance_kept, context_kept, heard_pacer, channels_heard)

  module _ (slender : Slender message) where
    -- AND THEY SAY SOMETHING
    pub heard_readable : readable (heard_words message words) ≡ true
    unfolding heard_words
    heard_readable = readable_by (heard_words message words) (record {
      long = heard_length ∙ said.long ∙ ap words_for (sym (head_kept COUNT-WORD (omega arith)));
      head = record {
        datalink = rw (head_kept DATALINK-WORD (omega arith)) said.head.datalink;
        instance = rw (context_before_lem two message.context INSTANCE-TAG (omega arith)) (instance_tag one one_room message.instance (rw (p.head INSTANCE-TAG (omega arith)) said.head.instance));
        context = context_tag_lem two message.context two_room;
        codes = rw (pacer_kept CODES-WORD (omega arith) (omega arith)) said.head.codes;
      };
      each = λ i h. slots_spelled (status_in message) (window_in message) words t (heard_words message words) heard_slot_lem slender.statuses slender.windows i (rw (head_kept COUNT-WORD (omega arith)) at h);
    })
      where
        said : Readable words
        said = readable_facts words (fit_readable words t)

    -- so that they stand for it
    pub heard_in_lem : state_in (heard_words message words) ≡ heard_by message (state_in words)
    heard_in_lem = says (heard_words message words) heard_readable ∙ heard_state ∙ ap (heard_by message) (sym (says words (fit_readable words t)))

-- ---- a silence
module _ (words : List ℕ) (t : state_fits (state_in words) ≡ true) where
  q : Passed (λ id. None) (λ id. (Some Window.Empty)) words (word words COUNT-WORD)
  q = all_passed (λ id. None) (λ id. (Some Window.Empty)) words t

  pub silenced_length : length (silenced_words words) ≡ length words
  unfolding silenced_words
  silenced_length = q.long

  -- none of the endpoint's own words is written, and of each channel only status and flow state
  pub silenced_head : (k : ℕ) → k < HEAD → word (silenced_words words) k ≡ word words k
  unfolding silenced_words
  silenced_head k h = q.head k h

  pub silenced_slot_lem : (i : ℕ) → i < word words COUNT-WORD → slot (silenced_words words) i ≡ silenced_slot (slot words i)
  unfolding silenced_words
  silenced_slot_lem i h = q.done i h

  channels_silenced : tabulate (word words COUNT-WORD) (λ i. channel_in (slot (silenced_words words) i)) ≡ map silenced (tabulate (word words COUNT-WORD) (λ i. channel_in (slot words i)))
  unfolding silenced
  channels_silenced = channels_told (λ id. None) (λ id. (Some Window.Empty)) words t (silenced_words words) silenced_slot_lem

  pub silenced_pacer : pacer_in (silenced_words words) ≡ pacer_in words
  silenced_pacer =
      rw (silenced_head HELLO-WORD (omega arith), silenced_head LIMIT-WORD (omega arith), silenced_head CLOCK-WORD (omega arith), silenced_head DUE-WORD (omega arith), silenced_head HEARD-WORD (omega arith))

  -- THE LAW: the words say the state after the silence
  pub silenced_state : state_of (silenced_words words) ≡ silenced_by (state_of words)
  unfolding state_of silenced_by
  silenced_state =
      rw (silenced_head DATALINK-WORD (omega arith), silenced_head COUNT-WORD (omega arith), silenced_head INSTANCE-TAG (omega arith), silenced_head INSTANCE-VALUE (omega arith), silenced_head INSTANCE-LENGTH (omega arith), silenced_head CONTEXT-TAG (omega arith), silenced_head CONTEXT-VALUE (omega arith), silenced_head CONTEXT-LENGTH (omega arith), silenced_head CODES-WORD (omega arith), silenced_pacer, channels_silenced)

  pub silenced_readable : readable (silenced_words words) ≡ true
  silenced_readable = readable_by (silenced_words words) (record {
    long = silenced_length ∙ said.long ∙ ap words_for (sym (silenced_head COUNT-WORD (omega arith)));
    head = record { datalink = rw (silenced_head DATALINK-WORD (omega arith)) said.head.datalink; instance = rw (silenced_head INSTANCE-TAG (omega arith)) said.head.instance; context = rw (silenced_head CONTEXT-TAG (omega arith)) said.head.context; codes = rw (silenced_head CODES-WORD (omega arith)) said.head.codes };
    each = λ i h. slots_spelled (λ id. None) (λ id. (Some Window.Empty)) words t (silenced_words words) silenced_slot_lem (λ id. omega arith) (λ id. omega arith) i (rw (silenced_head COUNT-WORD (omega arith)) at h);
  })
    where
      said : Readable words
      said = readable_facts words (fit_readable words t)

  -- so that they stand for it
  pub silenced_in : state_in (silenced_words words) ≡ silenced_by (state_in words)
  silenced_in = says (silenced_words words) silenced_readable ∙ silenced_state ∙ ap silenced_by (sym (says words (fit_readable words t)))
