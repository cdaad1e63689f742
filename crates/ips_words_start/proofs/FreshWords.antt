-- The words of a fresh start stand for the fresh state. Assumes nothing.
use Prim.Native.Nat.{ℕ, zero, suc, ◌+◌, ◌*◌, ◌^◌, ◌≤◌, ◌<◌}
use mathlib.Core.Bool.{Bool, true, false, cond}
use mathlib.Core.List.{List, [], ◌∷◌, map}
use mathlib.Core.Path.{◌≡◌, refl, sym, ◌∙◌}
use native.Mathlib.Omega.{arith}
use borrow.Author.Tests.{lt-ltb, eq-eqb}
use lib.ListN.{length, take, drop, get_or, length-append, length-map}
use lib.Seq.{take_at, drop-append-add, ext_get_or}
use Rattle.facts.specs.Tables.{tabulate}
use Rattle.facts.proofs.Tables.{length_tabulate, get_d_tabulate}
use Rattle.flow.specs.Counting.{first_flow}
use Rattle.ips_channel.specs.Channel.{fresh_channel}
use Rattle.pacer.specs.Pacing.{fresh_pacer}
use Rattle.ips_state.specs.State.{ChannelStart, Configuration, no_start, no_channel, fresh_of, fresh_state, blank_configuration}
use Rattle.ips_state.proofs.Channels.{get_d_mapped}
use Rattle.ips_words.specs.Words.{SLOT, DATALINK-WORD, COUNT-WORD, INSTANCE-TAG, CONTEXT-TAG, CODES-WORD, word, words_for, slot, channel_in, channel_words, instance_of, context_of, pacer_in, state_of, state_in, all_spelled, head_spelled, readable, flow_window, Narrow}
use Rattle.ips_words.proofs.Entries.{tidy_of_lem}
use Rattle.ips_words.proofs.Slots.{channel_back, words_spelled}
use Rattle.ips_words_start.specs.Start.{CONFIGURED-COUNT, start_in, starts_of, configuration_of, configuration_readable, configuration_in, head_words, slots_of, fresh_words}
use Rattle.ips_words_start.proofs.Starts.{starts_length, starts_at, first_at}
use Rattle.ips_words_start.proofs.Writing.{fresh_long}
use Rattle.ips_words_start.proofs.Beginning.{Said, said}

-- ---- a configuration whose numbers are no wider than they may be
pub record Small (k : Configuration) : Type 0 where
  pub datalink : k.datalink.id.0 < 256
  pub codes : k.datalink.codes.0 < 256
  pub firsts : (index : ℕ) → index < length k.starts → (get_or k.starts index no_start).first.0 < 2 ^ 32

-- ---- one fresh channel
fresh_narrow : (start : ChannelStart) → start.first.0 < 2 ^ 32 → Narrow (fresh_of start)
unfolding fresh_channel
fresh_narrow start h = record { tidy = tidy_of_lem [] (omega arith); status = omega arith; window = window start.setting.controlled; sequence = h }
  where
    window : (controlled : Bool) → flow_window (first_flow controlled) < 2 ^ 32
    window true = omega arith
    window false = omega arith

-- ---- the words of the fresh channels
slots_length : (ks : List ChannelStart) → length (slots_of (map fresh_of ks)) ≡ SLOT * length ks
unfolding slots_of
slots_length [] = refl
slots_length (k ∷ ks) = simp length-append (omega (arith, fresh_long k, slots_length ks))

slots_at : (ks : List ChannelStart) (i : ℕ) → i < length ks → take SLOT (drop (SLOT * i) (slots_of (map fresh_of ks))) ≡ channel_words (fresh_of (get_or ks i no_start))
unfolding slots_of
slots_at [] i h = absurd (omega arith)
slots_at (k ∷ ks) zero h = take_at (channel_words (fresh_of k)) (slots_of (map fresh_of ks)) SLOT (fresh_long k)
slots_at (k ∷ ks) (suc i) h =
    let far : SLOT * suc i ≡ length (channel_words (fresh_of k)) + SLOT * i = omega (arith, fresh_long k) in
    rw (far, drop-append-add (channel_words (fresh_of k)) (slots_of (map fresh_of ks)) (SLOT * i)) (slots_at ks i (omega arith))

module _ (k : Configuration) where
  abbrev count : ℕ
  count = length k.starts

  slot_fresh : (i : ℕ) → i < count → slot (fresh_words k) i ≡ channel_words (fresh_of (get_or k.starts i no_start))
  unfolding slot fresh_words
  slot_fresh i h = rw (drop-append-add (head_words k.datalink.id.0 count k.hello k.limit k.datalink.codes.0) (slots_of (map fresh_of k.starts)) (SLOT * i)) (slots_at k.starts i h)

  pub fresh_words_length : length (fresh_words k) ≡ words_for count
  unfolding fresh_words
  fresh_words_length = simp length-append (omega (arith, slots_length k.starts))

  -- ---- the endpoint's own words
  datalink_word : word (fresh_words k) DATALINK-WORD ≡ k.datalink.id.0
  unfolding fresh_words
  datalink_word = refl

  count_word : word (fresh_words k) COUNT-WORD ≡ count
  unfolding fresh_words
  count_word = refl

  instance_tag : word (fresh_words k) INSTANCE-TAG ≡ 0
  unfolding fresh_words
  instance_tag = refl

  context_tag_lem : word (fresh_words k) CONTEXT-TAG ≡ 0
  unfolding fresh_words
  context_tag_lem = refl

  codes_word : word (fresh_words k) CODES-WORD ≡ k.datalink.codes.0
  unfolding fresh_words
  codes_word = refl

  pacer_words : pacer_in (fresh_words k) ≡ fresh_pacer k.hello k.limit
  unfolding fresh_words
  pacer_words = refl

  module _ (small : Small k) where
    spelled_fresh : (n : ℕ) → n ≤ count → all_spelled (fresh_words k) n ≡ true
    unfolding all_spelled
    spelled_fresh zero h = refl
    spelled_fresh (suc n) h =
        rw (spelled_fresh n (omega arith), slot_fresh n (omega arith), words_spelled (fresh_of (get_or k.starts n no_start)) (fresh_narrow (get_or k.starts n no_start) (small.firsts n (omega arith))))

    pub fresh_readable : readable (fresh_words k) ≡ true
    unfolding readable head_spelled
    fresh_readable =
        rw (count_word, eq-eqb (length (fresh_words k)) (words_for count) fresh_words_length, datalink_word, lt-ltb k.datalink.id.0 256 small.datalink, instance_tag, context_tag_lem, codes_word, lt-ltb k.datalink.codes.0 256 small.codes, spelled_fresh count (omega arith))

    channels_fresh : tabulate count (λ i. channel_in (slot (fresh_words k) i)) ≡ map fresh_of k.starts
    channels_fresh =
        ext_get_or no_channel (tabulate count (λ i. channel_in (slot (fresh_words k) i))) (map fresh_of k.starts)
        (length_tabulate count (λ i. channel_in (slot (fresh_words k) i)) ∙ sym (length-map k.starts fresh_of))
        (λ i h. each i (omega (arith, length_tabulate count (λ i. channel_in (slot (fresh_words k) i)))))
      where
        each : (i : ℕ) → i < count → get_or (tabulate count (λ i. channel_in (slot (fresh_words k) i))) i no_channel ≡ get_or (map fresh_of k.starts) i no_channel
        each i h =
            let start = get_or k.starts i no_start in
            get_d_tabulate count (λ i. channel_in (slot (fresh_words k) i)) i no_channel h
            ∙ rw (slot_fresh i h, channel_back (fresh_of start) (fresh_narrow start (small.firsts i h)).tidy, get_d_mapped fresh_of k.starts i no_start no_channel h)

    pub fresh_said : state_of (fresh_words k) ≡ fresh_state k
    unfolding state_of fresh_state instance_of context_of
    fresh_said = rw (datalink_word, count_word, instance_tag, context_tag_lem, codes_word, pacer_words, channels_fresh)

-- ---- what words stand for has its numbers in range, also where they say nothing
blank_small : Small blank_configuration
unfolding blank_configuration
blank_small = record { datalink = omega arith; codes = omega arith; firsts = λ index inside. absurd (omega arith) }

said_small : (w : List ℕ) → Said w → Small (configuration_of w)
unfolding configuration_of start_in
said_small w s = record { datalink = s.datalink; codes = s.codes; firsts = firsts }
  where
    firsts : (index : ℕ) → index < length (starts_of w (word w CONFIGURED-COUNT)) → (get_or (starts_of w (word w CONFIGURED-COUNT)) index no_start).first.0 < 2 ^ 32
    firsts index inside =
        let there : index < word w CONFIGURED-COUNT = omega (arith, starts_length w (word w CONFIGURED-COUNT)) in
        rw (starts_at w (word w CONFIGURED-COUNT) index there) (first_at w (word w CONFIGURED-COUNT) index there s.spelled)

pub configuration_small : (w : List ℕ) → Small (configuration_in w)
unfolding configuration_in
configuration_small w = go (configuration_readable w) refl
  where
    go : (b : Bool) → configuration_readable w ≡ b → Small (cond b (configuration_of w) blank_configuration)
    go true e = said_small w (said w e)
    go false e = blank_small

-- THE WORDS OF A FRESH START STAND FOR THE FRESH STATE
pub fresh_in_words : (w : List ℕ) → state_in (fresh_words (configuration_in w)) ≡ fresh_state (configuration_in w)
unfolding state_in
fresh_in_words w = rw (fresh_readable (configuration_in w) (configuration_small w)) (fresh_said (configuration_in w) (configuration_small w))
