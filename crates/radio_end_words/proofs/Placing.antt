-- Where a channel stands in the words, and what is written. Assumes nothing.
use Rattle.std.specs.Prelude.{Option, Some, None}
use Rattle.quantity.specs.declared.count.LinkInstanceId.{LinkInstanceId}
use Rattle.quantity.specs.declared.count.FlowSequence.{FlowSequence}
use Rattle.meaning.specs.declared.message.ContextBytes.{ContextBytes}
use Prim.Native.Nat.{ℕ, ◌+◌, ◌-◌, ◌^◌, ◌≤◌, ◌<◌}
use mathlib.Core.Bool.{true}
use mathlib.Core.List.{List, ◌++◌}
use mathlib.Core.Path.{◌≡◌, refl, sym, ap, ◌∙◌}
use borrow.Rule.Slice.PartMut.{put_mid}
use native.Mathlib.Omega.{arith}
use borrow.Author.Tests.{ltb-true}
use lib.ListN.{length, take, drop, get_or, set}
use lib.Seq.{get_or-take, get_or-drop, drop-drop, ext_get_or}
use Rattle.radio_end_words.specs.Rows.{Rows}
use Rattle.radio_end_words.specs.Rows as rows
use Rattle.radio_end_words.proofs.Numbered as numbered
use Rattle.facts.proofs.Tables.{length_tabulate, get_d_tabulate}
use Rattle.lent_messages.specs.declared.stated.Stated.{Stated}
use Rattle.lent_messages.specs.Stated.{instance_stated, context_stated}
use Rattle.radio_end_state.specs.declared.channel.Channel.{Channel}
use Rattle.radio_end_state.specs.State.{no_channel, channel_at, with_channel, with_context, with_instance}
use Rattle.radio_end_state.specs.Limits.{ids, highest_fits, state_fits}
use Rattle.radio_end_state.proofs.Fit.{ChannelFit, channel_fit, fit_facts, ids_at, ids_length}
use Rattle.radio_end_words.specs.Words.{HEAD, SLOT, ID, DATALINK-WORD, COUNT-WORD, INSTANCE-TAG, INSTANCE-VALUE, INSTANCE-LENGTH, CONTEXT-TAG, CONTEXT-VALUE, CONTEXT-LENGTH, words_for, word, slot_start, slot, channel_in, state_of, state_in, highest_value, channel_words, head_words, state_words, Loadable, Placed, Counted}
use Rattle.radio_end_words.proofs.Slots.{channel_back}
use Rattle.radio_end_words.proofs.Whole.{slot_state, put_channel_lem, readable_facts, says, fit_readable, fit_words}

-- ---- the words of a state within the limits
module _ (words : List ℕ) (fits : state_fits (state_in words) ≡ true) where
  pub fit_count : length (state_in words).channels ≡ word words COUNT-WORD
  unfolding state_of
  fit_count = rw (says words (fit_readable words fits)) (length_tabulate (word words COUNT-WORD) (λ index. channel_in (slot words index)))

  pub fit_length : length words ≡ words_for (length (state_in words).channels)
  fit_length = rw fit_count (readable_facts words (fit_readable words fits)).long

  pub fit_says : state_of words ≡ state_in words
  fit_says = sym (says words (fit_readable words fits))

  pub fit_datalink : word words DATALINK-WORD ≡ (state_in words).datalink.0
  unfolding state_of
  fit_datalink = rw (← fit_says)

  pub fit_byte : word words DATALINK-WORD < 256
  fit_byte = rw fit_datalink (fit_facts (state_in words) fits).datalink

  pub fit_counted : Counted words (length (state_in words).channels)
  fit_counted = record { long = fit_length; count_is = fit_count; few = (fit_facts (state_in words) fits).few }

  pub fit_slot : (i : ℕ) → i < length (state_in words).channels → slot words i ≡ channel_words (channel_at (state_in words) i)
  fit_slot i h = ap (λ (w : List ℕ). slot w i) (sym (fit_words words fits)) ∙ slot_state (state_in words) i h

  pub fit_room : (i : ℕ) → i < length (state_in words).channels → slot_start i + SLOT ≤ length words
  fit_room i h = omega (arith, fit_length)

  pub fit_put : (i : ℕ) (c : Channel) → i < length (state_in words).channels
      → take (slot_start i) words ++ (channel_words c ++ drop (slot_start i + SLOT) words) ≡ state_words (with_channel (state_in words) i c)
  fit_put i c h =
      ap (λ (w : List ℕ). take (slot_start i) w ++ (channel_words c ++ drop (slot_start i + SLOT) w)) (sym (fit_words words fits)) ∙ put_channel_lem (state_in words) i c h

  pub context_saved : (k : Option (ContextBytes × ℕ)) (t : Stated) → t ≡ context_stated k
      → set (set (set words CONTEXT-TAG t.tag) CONTEXT-VALUE t.first) CONTEXT-LENGTH t.second ≡ state_words (with_context (state_in words) k)
  unfolding state_words head_words with_context
  context_saved k t e =
      rw e
      (ap (λ (w : List ℕ). set (set (set w CONTEXT-TAG (context_stated k).tag) CONTEXT-VALUE (context_stated k).first) CONTEXT-LENGTH (context_stated k).second) (sym (fit_words words fits)))

  pub instance_saved : (i : Option (LinkInstanceId × ℕ)) (t : Stated) → t ≡ instance_stated i
      → set (set (set words INSTANCE-TAG t.tag) INSTANCE-VALUE t.first) INSTANCE-LENGTH t.second ≡ state_words (with_instance (state_in words) i)
  unfolding state_words head_words with_instance
  instance_saved i t e =
      rw e
      (ap (λ (w : List ℕ). set (set (set w INSTANCE-TAG (instance_stated i).tag) INSTANCE-VALUE (instance_stated i).first) INSTANCE-LENGTH (instance_stated i).second) (sym (fit_words words fits)))

-- ---- a channel within the limits can be loaded
highest_small : (h : Option FlowSequence) → highest_fits h ≡ true → highest_value h < 2 ^ 32
highest_small None e = omega arith
highest_small (Some sequence) e = ltb-true sequence.0 (2 ^ 32) e

pub channel_loadable : (c : Channel) → ChannelFit c → Loadable (channel_words c)
unfolding channel_words
channel_loadable c f = record { long = refl; id = omega (arith, f.unreserved); status = omega (arith, f.status); highest = highest_small c.highest f.highest }

module _ (words : List ℕ) (index : ℕ) (p : Placed words index) where
  pub place_loadable : Loadable (slot words index)
  place_loadable = rw (fit_slot words p.fits index p.inside) (channel_loadable _ (channel_fit _ ((fit_facts (state_in words) p.fits).each index p.inside)))

  pub place_loaded : channel_in (slot words index) ≡ channel_at (state_in words) index
  place_loaded = rw (fit_slot words p.fits index p.inside) (channel_back (channel_at (state_in words) index))

  -- the part of the words that is lent for a channel
  abbrev part : List ℕ
  part = take ((slot_start index + SLOT) - slot_start index) (drop (slot_start index) words)

  part_is : part ≡ slot words index
  unfolding slot
  part_is =
      let size : (slot_start index + SLOT) - slot_start index ≡ SLOT = omega arith in
      rw size

  pub part_long : length part ≡ SLOT
  part_long = rw part_is place_loadable.long

  pub part_loadable : Loadable part
  part_loadable = rw part_is place_loadable

  pub part_loaded : (c : Channel) → c ≡ channel_in part → c ≡ channel_at (state_in words) index
  part_loaded c e = e ∙ rw part_is place_loaded

  pub place_ends : slot_start index + SLOT ≤ length words
  place_ends = fit_room words p.fits index p.inside

  pub part_saved : (c : Channel) (after : List ℕ) → after ≡ channel_words c
      → put_mid (slot_start index) ((slot_start index + SLOT) - slot_start index) words after ≡ state_words (with_channel (state_in words) index c)
  part_saved c after e =
      let size : (slot_start index + SLOT) - slot_start index ≡ SLOT = omega arith in
      rw (size, e, drop-drop) (fit_put words p.fits index c p.inside)

  pub place_few : index < 64
  place_few = omega (arith, p.inside, (fit_facts (state_in words) p.fits).few)

-- ---- a channel sought by its ID
pub slot_word : (words : List ℕ) (i k : ℕ) → k < SLOT → word (slot words i) k ≡ word words (slot_start i + k)
unfolding slot
slot_word words i k h = get_or-take SLOT (drop (slot_start i) words) k 0 h ∙ get_or-drop (slot_start i) words k 0

module _ (words : List ℕ) (count : ℕ) (counted : Counted words count) where
  abbrev numbers : List ℕ
  numbers = ids (state_of words).channels

  pub numbers_length : length numbers ≡ count
  unfolding state_of
  numbers_length = ids_length (state_of words).channels ∙ length_tabulate (word words COUNT-WORD) (λ index. channel_in (slot words index)) ∙ sym counted.count_is

  pub said_channel : (i : ℕ) → i < count → get_or (state_of words).channels i no_channel ≡ channel_in (slot words i)
  unfolding state_of
  said_channel i h = get_d_tabulate (word words COUNT-WORD) (λ index. channel_in (slot words index)) i no_channel (omega (arith, counted.count_is))

  pub number_at : (i : ℕ) → i < count → get_or numbers i 0 ≡ word words (slot_start i + ID)
  unfolding channel_in
  number_at i h = ids_at (state_of words).channels i ∙ ap (λ (c : Channel). c.setting.id) (said_channel i h) ∙ slot_word words i ID (omega arith)

  -- the channels stand in rows
  pub in_rows : Rows HEAD SLOT words count
  in_rows = record { long = counted.long; some = omega arith; few = counted.few }

  pub numbers_are : rows.numbers HEAD SLOT words count ≡ numbers
  numbers_are =
      ext_get_or 0 (rows.numbers HEAD SLOT words count) numbers (numbered.numbers_length HEAD SLOT words count ∙ sym numbers_length)
      (λ i h. let low : i < count = omega (arith, numbered.numbers_length HEAD SLOT words count) in let first : slot_start i + ID ≡ slot_start i = omega arith in numbered.number_at HEAD SLOT words count i low ∙ sym (number_at i low ∙ ap (word words) first))
