-- The channels' words, gone through in configuration order. Assumes nothing.
use Prim.Native.Nat.{ℕ, ◌+◌, ◌*◌, ◌≤◌, ◌<◌}
use mathlib.Core.Path.{◌≡◌, sym, ◌∙◌}
use mathlib.Core.Bool.{true}
use mathlib.Core.List.{List}
use native.Mathlib.Omega.{arith}
use borrow.Author.Tests.{eq-eqb, ne_eqb}
use lib.Dec.{eqb}
use lib.ListN.{length, take}
use lib.Seq.{take_all, length-take-le}
use Rattle.quantity.specs.Limits.{MOST-CHANNELS, CHANNEL-IDS}
use Rattle.quantity.specs.declared.count.DatalinkId.{DatalinkId}
use Rattle.ips_state.specs.State.{channel_at}
use Rattle.ips_state.specs.Limits.{state_fits}
use Rattle.ips_state.proofs.Places.{fit}
use Rattle.ips_query.proofs.Queries.{id_inside}
use Rattle.ips_words.specs.Words.{HEAD, SLOT, DATALINK-WORD, CODES-WORD, COUNT-WORD, CONTROLLED, ID, KIND, SEQUENCE, word, slot, slot_start, channel_in, state_of, state_in}
use Rattle.ips_words.proofs.Slots.{spelled_facts}
use Rattle.ips_words.proofs.Whole.{slot_word, readable_facts, says, fit_readable, fit_count, fit_room, fit_channel, fit_loadable}
use Rattle.ips_words_query.specs.Rising.{COUNT-VALUES, content_of, FlowSequences, Gathered, inserted}
use Rattle.ips_words_query.proofs.Asking.{sequences_none, sequences_plain, sequences_more}

-- ---- words that stand for a state within the limits
module _ (words : List ℕ) (fits : state_fits (state_in words) ≡ true) where
  said_few : word words COUNT-WORD ≤ MOST-CHANNELS
  said_few = omega (arith, fit_count words fits, (fit (state_in words) fits).few)

  pub said_long : length words ≡ HEAD + SLOT * word words COUNT-WORD
  said_long = (readable_facts words (fit_readable words fits)).long

  pub said_head : (HEAD ≤ length words) × (word words DATALINK-WORD < 256)
  said_head = (omega (arith, said_long), (readable_facts words (fit_readable words fits)).head.datalink)

  pub said_setting : (HEAD ≤ length words) × (word words DATALINK-WORD < 256) × (word words CODES-WORD < 256)
  said_setting = (said_head.0, said_head.1, (readable_facts words (fit_readable words fits)).head.codes)

  pub said_datalink : {datalink : DatalinkId} → datalink ≡ (state_of words).datalink.id → datalink ≡ (state_in words).datalink.id
  said_datalink e = rw (says words (fit_readable words fits)) e

-- ---- the loop: the channels before an index are gathered
pub record Gathering (words : List ℕ) (count : ℕ) (contents : List ℕ) (gathered at : ℕ) : Type 0 where
  pub fits : state_fits (state_in words) ≡ true
  pub count_is : count ≡ word words COUNT-WORD
  pub inside : at ≤ count
  pub few : gathered ≤ at
  pub room : length contents ≡ MOST-CHANNELS
  pub sequences : FlowSequences (take at (state_in words).channels) (take gathered contents)

pub gathering_start : (words : List ℕ) (count : ℕ) (contents : List ℕ) → state_fits (state_in words) ≡ true → count ≡ word words COUNT-WORD → length contents ≡ MOST-CHANNELS
    → Gathering words count contents 0 0
gathering_start words count contents f e l =
    record { fits = f; count_is = e; inside = omega arith; few = omega arith; room = l; sequences = sequences_none }

module _ (words : List ℕ) (count : ℕ) (contents : List ℕ) (gathered at : ℕ) (g : Gathering words count contents gathered at) where
  few_gathered : gathered ≤ MOST-CHANNELS
  few_gathered = omega (arith, g.few, g.inside, g.count_is, said_few words g.fits)

  pub gathering_end : count ≤ at → Gathered (state_in words).channels contents gathered
  gathering_end h = record {
    few = few_gathered;
    long = length-take-le gathered contents (omega (arith, few_gathered, g.room));
    sequences = rw (take_all at (state_in words).channels (omega (arith, fit_count words g.fits, g.count_is))) at g.sequences;
  }

  module _ (h : at < count) where
    within : at < length (state_in words).channels
    within = omega (arith, g.count_is, fit_count words g.fits)

    pub gathering_room : slot_start at + SLOT ≤ length words
    gathering_room = fit_room words g.fits at within

    pub gathering_low : slot_start at ≤ HEAD + SLOT * MOST-CHANNELS
    gathering_low = omega (arith, g.count_is, said_few words g.fits)

    pub gathering_place : gathered < length contents
    gathering_place = omega (arith, g.few, g.room, g.count_is, said_few words g.fits)

    at_word : (k : ℕ) → k < SLOT → word words (slot_start at + k) ≡ word (slot words at) k
    at_word k l = sym (slot_word words at k l)

    id_is : word words (slot_start at + ID) ≡ (channel_at (state_in words) at).setting.id
    unfolding channel_in
    id_is = rw (fit_channel words g.fits at within) (at_word ID (omega arith))

    kind_is : eqb (word words (slot_start at + KIND)) CONTROLLED ≡ (channel_at (state_in words) at).setting.controlled
    unfolding channel_in
    kind_is = rw (fit_channel words g.fits at within, at_word KIND (omega arith))

    sequence_is : word words (slot_start at + SEQUENCE) ≡ (channel_at (state_in words) at).sequence.0
    unfolding channel_in
    sequence_is = rw (fit_channel words g.fits at within) (at_word SEQUENCE (omega arith))

    pub gathering_id : word words (slot_start at + ID) < CHANNEL-IDS
    gathering_id = rw id_is (id_inside (state_in words) g.fits at within)

    pub gathering_sequence : word words (slot_start at + SEQUENCE) < COUNT-VALUES
    gathering_sequence =
        rw (at_word SEQUENCE (omega arith)) (spelled_facts (slot words at) (fit_loadable words g.fits at within).says).sequence

    pub gathering_plain : (word words (slot_start at + KIND) ≡ CONTROLLED → ⊥) → Gathering words count contents gathered (at + 1)
    gathering_plain f = record {
      fits = g.fits;
      count_is = g.count_is;
      inside = omega arith;
      few = omega (arith, g.few);
      room = g.room;
      sequences = sequences_plain (state_in words) g.fits at within (take gathered contents) g.sequences (sym kind_is ∙ ne_eqb _ _ f);
    }

    pub gathering_more : word words (slot_start at + KIND) ≡ CONTROLLED → (after : List ℕ) → length after ≡ length contents
        → take (gathered + 1) after ≡ inserted (content_of (word words (slot_start at + ID)) (word words (slot_start at + SEQUENCE))) (take gathered contents)
        → Gathering words count after (gathered + 1) (at + 1)
    gathering_more f after long is =
        let low : (channel_at (state_in words) at).sequence.0 < COUNT-VALUES = rw sequence_is at gathering_sequence in
        let more = sequences_more (state_in words) g.fits at within (take gathered contents) g.sequences (sym kind_is ∙ eq-eqb _ _ f) low in
        record {
          fits = g.fits;
          count_is = g.count_is;
          inside = omega arith;
          few = omega (arith, g.few);
          room = long ∙ g.room;
          sequences = rw (is, id_is, sequence_is) more;
        }
