-- All the words: what they say of each channel, and what a channel's words written anew leave. Assumes nothing.
use Prim.Native.Nat.{ℕ, zero, suc, ◌+◌, ◌≤◌, ◌<◌}
use mathlib.Core.Bool.{Bool, true, false, and-eq-true_iff}
use mathlib.Core.List.{List, ◌++◌}
use mathlib.Core.Logic.{⊎_elim}
use mathlib.Core.Path.{◌≡◌, refl, sym, ap, ◌∙◌}
use native.Mathlib.Nat.{eq-or-lt_of_le}
use native.Mathlib.Omega.{arith}
use borrow.Author.Tests.{eq-eqb, eqb-true, ltb-true, leb-true, lt-ltb, le-leb}
use lib.Dec.{eqb, leb, ltb}
use lib.ListN.{length, take, drop, set, get_or, replicate, length-replicate, length-drop, length-set, get_or-append}
use lib.Seq.{length-take-le, get_or-take, get_or-drop, get_or-set_same, get_or-set_other, ext_get_or}
use Rattle.facts.specs.Tables.{tabulate}
use Rattle.facts.proofs.Tables.{length_tabulate, get_d_tabulate}
use Rattle.facts.proofs.Tests.{clash}
use Rattle.store.proofs.Held.{well_sound}
use Rattle.ips_channel.specs.declared.state.Channel.{Channel}
use Rattle.ips_state.specs.State.{State, no_channel, channel_at, with_channel, blank_state}
use Rattle.ips_state.specs.Limits.{state_fits}
use Rattle.ips_state.proofs.Channels.{same_or_not, ChannelFit}
use Rattle.ips_state.proofs.Places.{front_long, changed_length, changed_here, changed_before, changed_behind, apart, blank_unfit, channel_fitting_at}
use Rattle.ips_words.specs.Words.{HEAD, SLOT, SIZE, DATALINK-WORD, COUNT-WORD, INSTANCE-TAG, INSTANCE-VALUE, INSTANCE-LENGTH, CONTEXT-TAG, CONTEXT-VALUE, CONTEXT-LENGTH, HELLO-WORD, LIMIT-WORD, CLOCK-WORD, DUE-WORD, HEARD-WORD, CODES-WORD, GIVEN, words_for, word, slot, slot_start, queue_in, channel_in, channel_words, state_of, spelled, all_spelled, head_spelled, readable, state_in, put_slot, put_channel, Loadable, Tidy, Narrow}
use Rattle.ips_words.proofs.Slots.{channel_length, channel_back, words_spelled}

-- ---- the channels that words say
pub channels_length : (words : List ℕ) → length (state_of words).channels ≡ word words COUNT-WORD
unfolding state_of
channels_length words = length_tabulate (word words COUNT-WORD) (λ index. channel_in (slot words index))

pub channel_at_lem : (words : List ℕ) (index : ℕ) → index < word words COUNT-WORD → channel_at (state_of words) index ≡ channel_in (slot words index)
unfolding state_of channel_at
channel_at_lem words index h = get_d_tabulate (word words COUNT-WORD) (λ index. channel_in (slot words index)) index no_channel h

pub slot_length : (words : List ℕ) (index : ℕ) → slot_start index + SLOT ≤ length words → length (slot words index) ≡ SLOT
unfolding slot
slot_length words index h = length-take-le SLOT (drop (slot_start index) words) (simp length-drop (omega arith))

pub slot_word : (words : List ℕ) (index k : ℕ) → k < SLOT → word (slot words index) k ≡ word words (slot_start index + k)
unfolding slot
slot_word words index k h = get_or-take SLOT (drop (slot_start index) words) k 0 h ∙ get_or-drop (slot_start index) words k 0

-- ---- the words of one channel written anew
module _ (words : List ℕ) (index : ℕ) (room : slot_start index + SLOT ≤ length words) (part : List ℕ) (long : length part ≡ SLOT) where
  pub slot_put_length : length (put_slot words index part) ≡ length words
  unfolding put_slot
  slot_put_length = changed_length words part (slot_start index) SLOT room long

  pub slot_put_same : slot (put_slot words index part) index ≡ part
  unfolding put_slot slot
  slot_put_same = changed_here words part (slot_start index) SLOT room long

  pub slot_put_other : (other : ℕ) → (other ≡ index → ⊥) → slot (put_slot words index part) other ≡ slot words other
  unfolding put_slot slot
  slot_put_other other f =
      ⊎_elim (λ (h : other < index). changed_before words part (slot_start index) SLOT room long (slot_start other) SLOT (omega arith))
      (λ (h : index < other). rw (changed_behind words part (slot_start index) SLOT room long (slot_start other) (omega arith))) (apart other index f)

  pub slot_put_head : (k : ℕ) → k < HEAD → word (put_slot words index part) k ≡ word words k
  unfolding put_slot
  slot_put_head k h =
      get_or-append (take (slot_start index) words) (part ++ drop (slot_start index + SLOT) words) 0 k (omega (arith, front_long words part (slot_start index) SLOT room long))
      ∙ get_or-take (slot_start index) words k 0 (omega arith)

  channels_put : (count : ℕ) → tabulate count (λ i. channel_in (slot (put_slot words index part) i)) ≡ set (tabulate count (λ i. channel_in (slot words i))) index (channel_in part)
  channels_put count = ext_get_or no_channel (tabulate count after) (set (tabulate count before) index (channel_in part)) (length_tabulate count after ∙ sym (length-set (tabulate count before) index (channel_in part) ∙ length_tabulate count before)) each
    where
      before : ℕ → Channel
      before i = channel_in (slot words i)

      after : ℕ → Channel
      after i = channel_in (slot (put_slot words index part) i)

      each : (i : ℕ) → i < length (tabulate count after) → get_or (tabulate count after) i no_channel ≡ get_or (set (tabulate count before) index (channel_in part)) i no_channel
      each i h =
          let few : i < count = omega (arith, length_tabulate count after) in
          get_d_tabulate count after i no_channel few
          ∙ ⊎_elim (λ (e : i ≡ index). rw (e, slot_put_same) (sym (get_or-set_same (tabulate count before) index (channel_in part) no_channel (omega (arith, length_tabulate count before)))))
          (λ (f : i ≡ index → ⊥). rw (slot_put_other i f) (sym (get_or-set_other (tabulate count before) index i (channel_in part) no_channel f ∙ get_d_tabulate count before i no_channel few))) (same_or_not i index)

  -- the state that the words say then has that channel replaced
  pub slot_put_state : state_of (put_slot words index part) ≡ with_channel (state_of words) index (channel_in part)
  unfolding state_of with_channel
  slot_put_state =
      rw (slot_put_head DATALINK-WORD (omega arith), slot_put_head COUNT-WORD (omega arith), slot_put_head INSTANCE-TAG (omega arith), slot_put_head INSTANCE-VALUE (omega arith), slot_put_head INSTANCE-LENGTH (omega arith), slot_put_head CONTEXT-TAG (omega arith), slot_put_head CONTEXT-VALUE (omega arith), slot_put_head CONTEXT-LENGTH (omega arith), slot_put_head HELLO-WORD (omega arith), slot_put_head LIMIT-WORD (omega arith), slot_put_head CLOCK-WORD (omega arith), slot_put_head DUE-WORD (omega arith), slot_put_head HEARD-WORD (omega arith), slot_put_head CODES-WORD (omega arith), channels_put (word words COUNT-WORD))

-- ---- the parts of `readable`, as facts
pub all_spelled_at : (words : List ℕ) (n : ℕ) → all_spelled words n ≡ true → (i : ℕ) → i < n → spelled (slot words i) ≡ true
unfolding all_spelled
all_spelled_at words zero e i h = absurd (omega arith)
all_spelled_at words (suc n) e i h =
    let b = (and-eq-true_iff (all_spelled words n) (spelled (slot words n))).0 e in
    ⊎_elim (λ (p : i ≡ n). rw p b.1) (λ (l : i < n). all_spelled_at words n b.0 i l) (eq-or-lt_of_le (omega arith))

pub all_spelled_by : (words : List ℕ) (n : ℕ) → ((i : ℕ) → i < n → spelled (slot words i) ≡ true) → all_spelled words n ≡ true
unfolding all_spelled
all_spelled_by words zero h = refl
all_spelled_by words (suc n) h = rw (all_spelled_by words n (λ i l. h i (omega arith)), h n (omega arith))

pub record HeadSpelled (words : List ℕ) : Type 0 where
  pub datalink : word words DATALINK-WORD < 256
  pub instance : word words INSTANCE-TAG ≤ GIVEN
  pub context : word words CONTEXT-TAG ≤ GIVEN
  pub codes : word words CODES-WORD < 256

pub head_facts : (words : List ℕ) → head_spelled words ≡ true → HeadSpelled words
unfolding head_spelled
head_facts words e =
    let a = (and-eq-true_iff (ltb (word words DATALINK-WORD) 256) _).0 e in
    let b = (and-eq-true_iff (leb (word words INSTANCE-TAG) GIVEN) _).0 a.1 in
    let c = (and-eq-true_iff (leb (word words CONTEXT-TAG) GIVEN) _).0 b.1 in
    record { datalink = ltb-true _ _ a.0; instance = leb-true _ _ b.0; context = leb-true _ _ c.0; codes = ltb-true _ _ c.1 }

pub head_by : (words : List ℕ) → HeadSpelled words → head_spelled words ≡ true
unfolding head_spelled
head_by words h = rw (lt-ltb _ _ h.datalink, le-leb _ _ h.instance, le-leb _ _ h.context, lt-ltb _ _ h.codes)

pub record Readable (words : List ℕ) : Type 0 where
  pub long : length words ≡ words_for (word words COUNT-WORD)
  pub head : HeadSpelled words
  pub each : (i : ℕ) → i < word words COUNT-WORD → spelled (slot words i) ≡ true

pub readable_facts : (words : List ℕ) → readable words ≡ true → Readable words
unfolding readable
readable_facts words e =
    let a = (and-eq-true_iff (eqb (length words) (words_for (word words COUNT-WORD))) _).0 e in
    let b = (and-eq-true_iff (head_spelled words) _).0 a.1 in
    record { long = eqb-true _ _ a.0; head = head_facts words b.0; each = all_spelled_at words (word words COUNT-WORD) b.1 }

pub readable_by : (words : List ℕ) → Readable words → readable words ≡ true
unfolding readable
readable_by words r =
    rw (eq-eqb _ _ r.long, head_by words r.head, all_spelled_by words (word words COUNT-WORD) r.each)

pub slot_room : (words : List ℕ) → readable words ≡ true → (index : ℕ) → index < word words COUNT-WORD → slot_start index + SLOT ≤ length words
slot_room words says index h = omega (arith, (readable_facts words says).long)

-- ---- what words stand for
pub says : (words : List ℕ) → readable words ≡ true → state_in words ≡ state_of words
unfolding state_in
says words e = rw e

pub says_nothing : (words : List ℕ) → readable words ≡ false → state_in words ≡ blank_state
unfolding state_in
says_nothing words e = rw e

-- words that stand for a state within the limits are readable
pub fit_readable : (words : List ℕ) → state_fits (state_in words) ≡ true → readable words ≡ true
fit_readable words fits = go (readable words) refl
  where
    go : (b : Bool) → readable words ≡ b → b ≡ true
    go true e = refl
    go false e = clash (sym (ap state_fits (says_nothing words e) ∙ blank_unfit) ∙ fits)

-- each of whose channels can be loaded
pub loadable : (words : List ℕ) → readable words ≡ true → state_fits (state_of words) ≡ true → (index : ℕ) → index < word words COUNT-WORD → Loadable (slot words index)
unfolding channel_in queue_in
loadable words e fits index h =
    let fit : ChannelFit (channel_in (slot words index)) = rw (channel_at_lem words index h) at (channel_fitting_at (state_of words) fits index (omega (arith, channels_length words))) in
    record {
      long = slot_length words index (slot_room words e index h);
      says = (readable_facts words e).each index h;
      id = omega (arith, fit.unreserved);
      few = (well_sound _ _ fit.well_formed_lem (replicate (word (slot words index) SIZE) 0) (length-replicate (word (slot words index) SIZE) 0)).few;
    }

-- ---- one channel's words written anew leave readable words
module _ (words : List ℕ) (e : readable words ≡ true) (index : ℕ) (inside : index < word words COUNT-WORD) (part : List ℕ) (long : length part ≡ SLOT) (spells : spelled part ≡ true) where
  room : slot_start index + SLOT ≤ length words
  room = slot_room words e index inside

  pub slot_put_readable : readable (put_slot words index part) ≡ true
  slot_put_readable = readable_by (put_slot words index part) (record {
    long = slot_put_length words index room part long ∙ facts.long ∙ ap words_for (sym (head COUNT-WORD (omega arith)));
    head = record { datalink = rw (head DATALINK-WORD (omega arith)) facts.head.datalink; instance = rw (head INSTANCE-TAG (omega arith)) facts.head.instance; context = rw (head CONTEXT-TAG (omega arith)) facts.head.context; codes = rw (head CODES-WORD (omega arith)) facts.head.codes };
    each = each;
  })
    where
      facts : Readable words
      facts = readable_facts words e

      head : (k : ℕ) → k < HEAD → word (put_slot words index part) k ≡ word words k
      head = slot_put_head words index room part long

      each : (i : ℕ) → i < word (put_slot words index part) COUNT-WORD → spelled (slot (put_slot words index part) i) ≡ true
      each i h =
          ⊎_elim (λ (p : i ≡ index). rw (p, slot_put_same words index room part long) spells)
          (λ (f : i ≡ index → ⊥). rw (slot_put_other words index room part long i f) (facts.each i (rw (head COUNT-WORD (omega arith)) at h))) (same_or_not i index)

-- ---- one channel written anew
module _ (words : List ℕ) (index : ℕ) (room : slot_start index + SLOT ≤ length words) (c : Channel) (tidy : Tidy c.queue) where
  part_long : length (channel_words c) ≡ SLOT
  part_long = channel_length c tidy.places

  pub put_same : slot (put_channel words index c) index ≡ channel_words c
  unfolding put_channel
  put_same = slot_put_same words index room (channel_words c) part_long

  pub put_other : (other : ℕ) → (other ≡ index → ⊥) → slot (put_channel words index c) other ≡ slot words other
  unfolding put_channel
  put_other = slot_put_other words index room (channel_words c) part_long

  pub put_head : (k : ℕ) → k < HEAD → word (put_channel words index c) k ≡ word words k
  unfolding put_channel
  put_head = slot_put_head words index room (channel_words c) part_long

  -- THE LAW: the words with one channel written anew say the state with that channel replaced
  pub put_state : state_of (put_channel words index c) ≡ with_channel (state_of words) index c
  unfolding put_channel
  put_state = slot_put_state words index room (channel_words c) part_long ∙ ap (with_channel (state_of words) index) (channel_back c tidy)

module _ (words : List ℕ) (e : readable words ≡ true) (index : ℕ) (inside : index < word words COUNT-WORD) (c : Channel) (narrow : Narrow c) where
  pub put_readable : readable (put_channel words index c) ≡ true
  unfolding put_channel
  put_readable = slot_put_readable words e index inside (channel_words c) (channel_length c narrow.tidy.places) (words_spelled c narrow)

  -- and they stand for it
  pub put_in : state_in (put_channel words index c) ≡ with_channel (state_in words) index c
  put_in =
      says (put_channel words index c) put_readable
      ∙ put_state words index (slot_room words e index inside) c narrow.tidy
      ∙ ap (λ (s : State). with_channel s index c) (sym (says words e))

-- ---- words that stand for a state within the limits, for the calls: which channel is where, that it can be loaded, and that it can be written anew
module _ (words : List ℕ) (fits : state_fits (state_in words) ≡ true) where
  fit_says : state_in words ≡ state_of words
  fit_says = says words (fit_readable words fits)

  pub fit_count : length (state_in words).channels ≡ word words COUNT-WORD
  fit_count = rw fit_says (channels_length words)

  module _ (index : ℕ) (inside : index < length (state_in words).channels) where
    counted : index < word words COUNT-WORD
    counted = omega (arith, fit_count)

    pub fit_room : slot_start index + SLOT ≤ length words
    fit_room = slot_room words (fit_readable words fits) index counted

    pub fit_channel : channel_at (state_in words) index ≡ channel_in (slot words index)
    fit_channel = rw fit_says (channel_at_lem words index counted)

    pub fit_loadable : Loadable (slot words index)
    fit_loadable = loadable words (fit_readable words fits) (rw fit_says at fits) index counted

    pub fit_put : (c : Channel) → Narrow c → state_in (put_channel words index c) ≡ with_channel (state_in words) index c
    fit_put = put_in words (fit_readable words fits) index counted
