-- The words of a fresh start, written one channel after another. Assumes nothing.
use Prim.Native.Nat.{ℕ, ◌+◌, ◌-◌, ◌≤◌, ◌<◌}
use mathlib.Core.List.{List, [], ◌∷◌, ◌++◌, map, map-append, append_assoc, append-nil}
use mathlib.Core.Path.{◌≡◌, refl, sym, ap, ◌∙◌}
use native.Mathlib.Omega.{arith}
use borrow.Rule.Slice.PartMut.{put_mid}
use lib.ListN.{length, take, drop, length-append, length-drop, length-map}
use lib.Seq.{sets, sets-eq, take_at, take_all, length-take-le}
use Rattle.radio_end_state.specs.declared.channel.Channel.{Channel}
use Rattle.radio_end_state.specs.Channel.{fresh_channel}
use Rattle.radio_end_state.specs.State.{fresh_state}
use Rattle.radio_end_words.specs.Words.{HEAD, SLOT, word, words_for, slot_start, channel_words, slots_of, head_words, state_words}
use Rattle.radio_end_words.proofs.Slots.{channel_length}
use Rattle.radio_end_start.specs.Start.{CONFIGURED-DATALINK, CONFIGURED-COUNT, setting_in, settings_of, configuration_of, fresh_head, Startable}
use Rattle.radio_end_start.proofs.Settings.{settings_length, one_more}

pub head_written : (words : List ℕ) (datalink count : ℕ) → HEAD ≤ length words → sets words 0 (fresh_head datalink count) ≡ fresh_head datalink count ++ drop HEAD words
head_written words datalink count h = sets-eq (fresh_head datalink count) words 0 (omega arith)

slots_join : (xs ys : List Channel) → slots_of (xs ++ ys) ≡ slots_of xs ++ slots_of ys
unfolding slots_of
slots_join [] ys = refl
slots_join (x ∷ xs) ys = rw (slots_join xs ys) (sym (append_assoc (channel_words x) (slots_of xs) (slots_of ys)))

-- ---- where the channels before `at` are written
pub record Writing (configuration : List ℕ) (count : ℕ) (words₀ words : List ℕ) (at : ℕ) : Type 0 where
  pub long : length words ≡ words_for count
  pub so_far : take (slot_start at) words ≡ take HEAD words₀ ++ slots_of (map fresh_channel (take at (settings_of configuration count)))

module _ (configuration : List ℕ) (count : ℕ) (words₀ : List ℕ) where
  pub write_start : length words₀ ≡ words_for count → Writing configuration count words₀ words₀ 0
  unfolding slots_of
  write_start long = record { long = long; so_far = sym (append-nil (take HEAD words₀)) }

  module _ (words : List ℕ) (at : ℕ) (v : Writing configuration count words₀ words at) where
    module _ (inside : at < count) where
      slots_more : slots_of (map fresh_channel (take (at + 1) (settings_of configuration count))) ≡ slots_of (map fresh_channel (take at (settings_of configuration count))) ++ channel_words (fresh_channel (setting_in configuration at))
      unfolding slots_of
      slots_more =
          rw (one_more configuration count at inside, map-append fresh_channel (take at (settings_of configuration count)) (setting_in configuration at ∷ []), slots_join (map fresh_channel (take at (settings_of configuration count))) (fresh_channel (setting_in configuration at) ∷ []), append-nil)

      module _ (c : Channel) (part : List ℕ) (fresh : c ≡ fresh_channel (setting_in configuration at)) (saved : part ≡ channel_words c) where
        part_is : part ≡ channel_words (fresh_channel (setting_in configuration at))
        part_is = saved ∙ ap channel_words fresh

        part_long : length part ≡ SLOT
        part_long = ap (λ (l : List ℕ). length l) part_is ∙ channel_length (fresh_channel (setting_in configuration at))

        front_long : length (take (slot_start at) words) ≡ slot_start at
        front_long = length-take-le (slot_start at) words (omega (arith, v.long))

        pub write_on : Writing configuration count words₀ (put_mid (slot_start at) (slot_start at + SLOT - slot_start at) words part) (at + 1)
        write_on =
            let next : slot_start (at + 1) ≡ slot_start at + SLOT = omega arith in
            record {
              long = simp (length-append, length-drop) (omega (arith, part_long, front_long, v.long));
              so_far =
                  rw (next, ← append_assoc (take (slot_start at) words) part (drop (slot_start at + SLOT - slot_start at) (drop (slot_start at) words)))
                  (take_at (take (slot_start at) words ++ part) (drop (slot_start at + SLOT - slot_start at) (drop (slot_start at) words)) (slot_start at + SLOT) (simp length-append (omega (arith, part_long, front_long)))
                  ∙ rw (v.so_far, part_is, slots_more) (append_assoc (take HEAD words₀) (slots_of (map fresh_channel (take at (settings_of configuration count)))) (channel_words (fresh_channel (setting_in configuration at)))));
            }

    pub write_end : at ≤ count → count ≤ at → words ≡ take HEAD words₀ ++ slots_of (map fresh_channel (settings_of configuration count))
    write_end most over =
        let whole : take (slot_start at) words ≡ words = take_all (slot_start at) words (omega (arith, v.long)) in
        sym whole ∙ v.so_far ∙ rw (take_all at (settings_of configuration count) (omega (arith, settings_length configuration count)))

-- ---- both, one behind the other, are the words of the fresh state
module _ (w : List ℕ) (count : ℕ) (s : Startable w count) where
  fresh_is : fresh_head (word w CONFIGURED-DATALINK) count ++ slots_of (map fresh_channel (settings_of w count)) ≡ state_words (fresh_state (configuration_of w))
  unfolding state_words head_words fresh_state configuration_of
  fresh_is =
      let long : length (map fresh_channel (settings_of w (word w CONFIGURED-COUNT))) ≡ word w CONFIGURED-COUNT = length-map (settings_of w (word w CONFIGURED-COUNT)) fresh_channel ∙ settings_length w (word w CONFIGURED-COUNT) in
      rw (s.count_is, long)

  pub all_written : (rest headed words' : List ℕ) (counted : ℕ) → headed ≡ fresh_head (word w CONFIGURED-DATALINK) counted ++ rest → counted ≡ count
      → words' ≡ take HEAD headed ++ slots_of (map fresh_channel (settings_of w count)) → words' ≡ state_words (fresh_state (configuration_of w))
  all_written rest headed words' counted head is written = written ∙ rw (head, is) fresh_is
