-- The words of a whole state: a state has one form in words, and words that say a state are its words. Assumes nothing.
use Rattle.std.specs.Prelude.{Option, Some, None}
use Rattle.quantity.specs.declared.count.LinkInstanceId.{LinkInstanceId}
use Rattle.meaning.specs.declared.message.ContextBytes.{ContextBytes}
use Prim.Native.Nat.{ℕ, ◌+◌, ◌*◌, ◌<◌}
use mathlib.Core.Bool.{Bool, true, false, ◌&&◌, and-eq-true_iff}
use mathlib.Core.List.{List, ◌++◌}
use mathlib.Core.Path.{◌≡◌, refl, sym, ap, ◌∙◌}
use native.Mathlib.Omega.{arith}
use borrow.Author.Tests.{eqb-true, eq-eqb}
use lib.Dec.{eqb}
use lib.ListN.{length, take, drop, get_or, length-drop, take-append-drop, length-set}
use lib.Seq.{take-append-add, drop-append-add, drop-drop, ext_get_or}
use Rattle.facts.specs.Tables.{tabulate}
use Rattle.facts.proofs.Tables.{length_tabulate, get_d_tabulate}
use Rattle.facts.proofs.Tests.{clash}
use Rattle.lent_messages.specs.declared.stated.Stated.{Stated}
use Rattle.lent_messages.specs.Layout.{ABSENT, GIVEN}
use Rattle.lent_messages.specs.Stated.{instance_stated, context_stated, instance_of, context_of}
use Rattle.radio_end_state.specs.declared.channel.Channel.{Channel}
use Rattle.radio_end_state.specs.State.{State, blank_state, no_channel, channel_at, with_channels, with_channel}
use Rattle.radio_end_state.specs.Limits.{state_fits}
use Rattle.radio_end_words.specs.Words.{HEAD, SLOT, COUNT-WORD, INSTANCE-TAG, INSTANCE-VALUE, INSTANCE-LENGTH, CONTEXT-TAG, CONTEXT-VALUE, CONTEXT-LENGTH, words_for, word, slot_start, slot, channel_in, state_of, spelled, name_spelled, head_spelled, all_spelled, readable, state_in, channel_words, slots_of, head_words, state_words}
use Rattle.radio_end_state.proofs.UpTo.{up_to_at, up_to_by}
use Rattle.radio_end_words.proofs.Slots.{channel_back, channel_says, eight, slots_length, slot_of, slots_put, slots_forth}

-- ---- Link Instance and Context
instance_back : (i : Option (LinkInstanceId × ℕ)) → instance_of (instance_stated i).tag (instance_stated i).first (instance_stated i).second ≡ i
unfolding instance_of
instance_back None = refl
instance_back (Some (id, size)) = refl

context_back : (k : Option (ContextBytes × ℕ)) → context_of (context_stated k).tag (context_stated k).first (context_stated k).second ≡ k
unfolding context_of
context_back None = refl
context_back (Some (bytes, size)) = refl

instance_says : (i : Option (LinkInstanceId × ℕ)) → name_spelled (instance_stated i).tag (instance_stated i).first (instance_stated i).second ≡ true
unfolding name_spelled
instance_says None = refl
instance_says (Some (id, size)) = refl

context_says : (k : Option (ContextBytes × ℕ)) → name_spelled (context_stated k).tag (context_stated k).first (context_stated k).second ≡ true
unfolding name_spelled
context_says None = refl
context_says (Some (bytes, size)) = refl

abbrev stated_by : (tag value size : ℕ) → Stated
stated_by tag value size = record { tag = tag; first = value; second = size }

-- the three words of a name are one of two forms
module _ (tag value size : ℕ) (P : Stated → Type 0) (absent : P (stated_by ABSENT 0 0)) (given : P (stated_by GIVEN value size)) where
  name_forms : name_spelled tag value size ≡ true → P (stated_by tag value size)
  unfolding name_spelled
  name_forms e = go (eqb tag ABSENT) refl
    where
      go : (b : Bool) → eqb tag ABSENT ≡ b → P (stated_by tag value size)
      go true f =
          let zeros : (eqb value 0 && eqb size 0) ≡ true = rw f at e in
          let both = (and-eq-true_iff (eqb value 0) (eqb size 0)).0 zeros in
          rw (eqb-true tag ABSENT f, eqb-true value 0 both.0, eqb-true size 0 both.1) absent
      go false f =
          let is-given : eqb tag GIVEN ≡ true = rw f at e in
          rw (eqb-true tag GIVEN is-given) given

instance_forth : (tag value size : ℕ) → name_spelled tag value size ≡ true → instance_stated (instance_of tag value size) ≡ stated_by tag value size
unfolding instance_of
instance_forth tag value size e = name_forms tag value size (λ (w : Stated). instance_stated (instance_of w.tag w.first w.second) ≡ w) refl refl e

context_forth : (tag value size : ℕ) → name_spelled tag value size ≡ true → context_stated (context_of tag value size) ≡ stated_by tag value size
unfolding context_of
context_forth tag value size e = name_forms tag value size (λ (w : Stated). context_stated (context_of w.tag w.first w.second) ≡ w) refl refl e

-- ---- a state's words
module _ (s : State) where
  pub state_length : length (state_words s) ≡ words_for (length s.channels)
  unfolding state_words head_words
  state_length = rw (slots_length s.channels) (omega arith)

  body : (n : ℕ) → drop (HEAD + n) (state_words s) ≡ drop n (slots_of s.channels)
  unfolding state_words head_words
  body n = drop-append-add (head_words s) (slots_of s.channels) n

  -- the words of a channel
  pub slot_state : (i : ℕ) → i < length s.channels → slot (state_words s) i ≡ channel_words (channel_at s i)
  unfolding slot channel_at
  slot_state i h = rw (body (SLOT * i)) (slot_of s.channels i h)

  count_back : word (state_words s) COUNT-WORD ≡ length s.channels
  unfolding state_words head_words
  count_back = refl

  abbrev said : ℕ → Channel
  said index = channel_in (slot (state_words s) index)

  said_at_lem : (i : ℕ) → i < length (tabulate (length s.channels) said) → get_or (tabulate (length s.channels) said) i no_channel ≡ get_or s.channels i no_channel
  unfolding channel_at
  said_at_lem i h =
      let inside : i < length s.channels = omega (arith, length_tabulate (length s.channels) said) in
      get_d_tabulate (length s.channels) said i no_channel inside ∙ ap channel_in (slot_state i inside) ∙ channel_back (channel_at s i)

  channels_back : tabulate (length s.channels) said ≡ s.channels
  channels_back = ext_get_or no_channel (tabulate (length s.channels) said) s.channels (length_tabulate (length s.channels) said) said_at_lem

  pub state_back : state_of (state_words s) ≡ s
  unfolding state_of state_words head_words
  state_back = rw (channels_back, instance_back s.instance, context_back s.context)

  head_says : head_spelled (state_words s) ≡ true
  unfolding head_spelled state_words head_words
  head_says = rw (instance_says s.instance, context_says s.context)

  each_says : (i : ℕ) → i < length s.channels → spelled (slot (state_words s) i) ≡ true
  each_says i h = rw (slot_state i h) (channel_says (channel_at s i))

  pub state_readable : readable (state_words s) ≡ true
  unfolding readable all_spelled
  state_readable = rw (count_back, eq-eqb _ _ state_length, head_says) (up_to_by (λ index. spelled (slot (state_words s) index)) (length s.channels) each_says)

  -- THE WORDS OF A STATE STAND FOR IT
  pub stands : state_in (state_words s) ≡ s
  unfolding state_in
  stands = rw (state_readable) state_back

  -- one channel's words replaced are the words of the state with that channel
  pub put_channel_lem : (i : ℕ) (c : Channel) → i < length s.channels
      → take (slot_start i) (state_words s) ++ (channel_words c ++ drop (slot_start i + SLOT) (state_words s)) ≡ state_words (with_channel s i c)
  unfolding state_words head_words with_channel with_channels
  put_channel_lem i c h =
      let place : HEAD + SLOT * i + SLOT ≡ HEAD + (SLOT * i + SLOT) = omega arith in
      rw (place, body (SLOT * i + SLOT), take-append-add (head_words s) (slots_of s.channels) (SLOT * i), length-set s.channels i c)
      (ap (λ (rest : List ℕ). head_words s ++ rest) (slots_put s.channels i c h))

-- ---- what readable words hold
pub record Readable (words : List ℕ) : Type 0 where
  pub long : length words ≡ words_for (word words COUNT-WORD)
  pub instance : name_spelled (word words INSTANCE-TAG) (word words INSTANCE-VALUE) (word words INSTANCE-LENGTH) ≡ true
  pub context : name_spelled (word words CONTEXT-TAG) (word words CONTEXT-VALUE) (word words CONTEXT-LENGTH) ≡ true
  pub each : (index : ℕ) → index < word words COUNT-WORD → spelled (slot words index) ≡ true

pub readable_facts : (words : List ℕ) → readable words ≡ true → Readable words
unfolding readable head_spelled all_spelled
readable_facts words e =
    let a = (and-eq-true_iff (eqb (length words) (words_for (word words COUNT-WORD))) _).0 e in
    let b = (and-eq-true_iff (head_spelled words) _).0 a.1 in
    let d = (and-eq-true_iff (name_spelled (word words INSTANCE-TAG) (word words INSTANCE-VALUE) (word words INSTANCE-LENGTH)) _).0 b.0 in
    record { long = eqb-true _ _ a.0; instance = d.0; context = d.1; each = up_to_at (λ index. spelled (slot words index)) (word words COUNT-WORD) b.1 }

-- ---- words that say a state are its words
module _ (words : List ℕ) (e : readable words ≡ true) where
  facts : Readable words
  facts = readable_facts words e

  head_forth : head_words (state_of words) ≡ take HEAD words
  unfolding head_words state_of
  head_forth =
      rw (length_tabulate (word words COUNT-WORD) (λ index. channel_in (slot words index)), instance_forth _ _ _ facts.instance, context_forth _ _ _ facts.context)
      (sym (eight words (omega (arith, facts.long))))

  slot_in_body : (index : ℕ) → slot words index ≡ take SLOT (drop (SLOT * index) (drop HEAD words))
  unfolding slot
  slot_in_body index = ap (take SLOT) (sym (drop-drop (SLOT * index) HEAD words))

  slots_are : slots_of (state_of words).channels ≡ drop HEAD words
  unfolding state_of
  slots_are =
      ap slots_of (ap (tabulate (word words COUNT-WORD)) (λ i k. channel_in (slot_in_body k i)))
      ∙ slots_forth (word words COUNT-WORD) (drop HEAD words) (simp length-drop (omega (arith, facts.long))) (λ i h. rw (← (slot_in_body i)) (facts.each i h))

  pub forth : state_words (state_of words) ≡ words
  unfolding state_words
  forth = rw (head_forth, slots_are) (take-append-drop HEAD words)

-- ---- words that stand for a state within the limits
pub says : (words : List ℕ) → readable words ≡ true → state_in words ≡ state_of words
unfolding state_in
says words e = rw e

pub says_nothing : (words : List ℕ) → readable words ≡ false → state_in words ≡ blank_state
unfolding state_in
says_nothing words e = rw e

pub blank_unfit : state_fits blank_state ≡ false
unfolding state_fits blank_state
blank_unfit = refl

pub fit_readable : (words : List ℕ) → state_fits (state_in words) ≡ true → readable words ≡ true
fit_readable words fits = go (readable words) refl
  where
    go : (b : Bool) → readable words ≡ b → b ≡ true
    go true e = refl
    go false e = clash (sym (ap state_fits (says_nothing words e) ∙ blank_unfit) ∙ fits)

-- THEY ARE THAT STATE'S WORDS
pub fit_words : (words : List ℕ) → state_fits (state_in words) ≡ true → state_words (state_in words) ≡ words
fit_words words fits = let e = fit_readable words fits in rw (says words e) (forth words e)
