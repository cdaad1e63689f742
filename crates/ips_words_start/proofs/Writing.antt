-- The words of a fresh start, written one channel after another. Assumes nothing.
use Prim.Native.Nat.{ℕ, ◌+◌, ◌-◌, ◌^◌, ◌≤◌, ◌<◌}
use mathlib.Core.List.{List, [], ◌∷◌, ◌++◌, map, map-append, append_assoc, append-nil}
use mathlib.Core.Path.{◌≡◌, refl, sym, ap, ◌∙◌}
use native.Mathlib.Omega.{arith}
use borrow.Rule.Slice.PartMut.{put_mid}
use lib.ListN.{length, take, drop, length-append, length-drop, length-replicate}
use lib.Seq.{sets, sets-eq, take_at, take_all, length-take-le}
use Rattle.quantity.specs.Limits.{MOST-WAITING}
use Rattle.store.specs.Waiting.{no_entry, queue_of, listed}
use Rattle.ips_channel.specs.declared.state.Channel.{Channel}
use Rattle.ips_channel.specs.Channel.{fresh_channel}
use Rattle.ips_state.specs.State.{ChannelStart, fresh_of}
use Rattle.ips_words.specs.Words.{HEAD, SLOT, words_for, slot_start, channel_words}
use Rattle.ips_words.proofs.Slots.{channel_length}
use Rattle.ips_words_start.specs.Start.{START-ID, START-KIND, START-FIRST, START-SIZE, start_word, start_with, start_in, starts_of, head_words, slots_of, Startable}
use Rattle.ips_words_start.proofs.Starts.{starts_length, one_more}

pub head_written : (words : List ℕ) (datalink count hello limit codes : ℕ) → HEAD ≤ length words → sets words 0 (head_words datalink count hello limit codes) ≡ head_words datalink count hello limit codes ++ drop HEAD words
head_written words datalink count hello limit codes h = sets-eq (head_words datalink count hello limit codes) words 0 (omega arith)

pub fresh_places : (k : ChannelStart) → length (fresh_of k).queue.entries ≡ MOST-WAITING
unfolding fresh_channel queue_of listed
fresh_places k = length-replicate MOST-WAITING no_entry

pub fresh_long : (k : ChannelStart) → length (channel_words (fresh_of k)) ≡ SLOT
fresh_long k = channel_length (fresh_of k) (fresh_places k)

pub slots_join : (xs ys : List Channel) → slots_of (xs ++ ys) ≡ slots_of xs ++ slots_of ys
unfolding slots_of
slots_join [] ys = refl
slots_join (x ∷ xs) ys = rw (slots_join xs ys) (sym (append_assoc (channel_words x) (slots_of xs) (slots_of ys)))

-- ---- where the channels before `at` are written
pub record Writing (configuration : List ℕ) (count : ℕ) (words₀ words : List ℕ) (at : ℕ) : Type 0 where
  pub inside : at ≤ count
  pub long : length words ≡ words_for count
  pub so_far : take (slot_start at) words ≡ take HEAD words₀ ++ slots_of (map fresh_of (take at (starts_of configuration count)))

module _ (configuration : List ℕ) (count : ℕ) (words₀ : List ℕ) where
  pub write_start : length words₀ ≡ words_for count → Writing configuration count words₀ words₀ 0
  unfolding slots_of
  write_start long = record { inside = omega arith; long = long; so_far = sym (append-nil (take HEAD words₀)) }

  module _ (words : List ℕ) (at : ℕ) (v : Writing configuration count words₀ words at) where
    module _ (inside : at < count) where
      pub part_ends : slot_start at + SLOT ≤ length words
      part_ends = omega (arith, v.long)

      pub numbers_fit : Startable configuration count → (start_word configuration at START-ID < 256) × (start_word configuration at START-FIRST < 2 ^ 32)
      numbers_fit s = (omega (arith, s.ids at inside), s.firsts at inside)

      start_is : start_with (start_word configuration at START-ID) (start_word configuration at START-KIND) (start_word configuration at START-FIRST) (start_word configuration at START-SIZE) ≡ start_in configuration at
      unfolding start_in
      start_is = refl

      slots_more : slots_of (map fresh_of (take (at + 1) (starts_of configuration count))) ≡ slots_of (map fresh_of (take at (starts_of configuration count))) ++ channel_words (fresh_of (start_in configuration at))
      unfolding slots_of
      slots_more =
          rw (one_more configuration count at inside, map-append fresh_of (take at (starts_of configuration count)) (start_in configuration at ∷ []), slots_join (map fresh_of (take at (starts_of configuration count))) (fresh_of (start_in configuration at) ∷ []), append-nil)

      module _ (c : Channel) (part : List ℕ)
          (fresh : c ≡ fresh_of (start_with (start_word configuration at START-ID) (start_word configuration at START-KIND) (start_word configuration at START-FIRST) (start_word configuration at START-SIZE)))
          (saved : part ≡ channel_words c) where
        part_is : part ≡ channel_words (fresh_of (start_in configuration at))
        part_is = saved ∙ ap channel_words (fresh ∙ ap fresh_of start_is)

        part_long : length part ≡ SLOT
        part_long = ap (λ (l : List ℕ). length l) part_is ∙ fresh_long (start_in configuration at)

        front_long : length (take (slot_start at) words) ≡ slot_start at
        front_long = length-take-le (slot_start at) words (omega (arith, part_ends))

        pub write_on : Writing configuration count words₀ (put_mid (slot_start at) (slot_start at + SLOT - slot_start at) words part) (at + 1)
        write_on = let next : slot_start (at + 1) ≡ slot_start at + SLOT = omega arith in record {
          inside = omega arith;
          long = simp (length-append, length-drop) (omega (arith, part_ends, part_long, front_long, v.long));
          so_far =
              rw (next, ← append_assoc (take (slot_start at) words) part (drop (slot_start at + SLOT - slot_start at) (drop (slot_start at) words)))
              (take_at (take (slot_start at) words ++ part) (drop (slot_start at + SLOT - slot_start at) (drop (slot_start at) words)) (slot_start at + SLOT) (simp length-append (omega (arith, part_long, front_long)))
              ∙ rw (v.so_far, part_is, slots_more) (append_assoc (take HEAD words₀) (slots_of (map fresh_of (take at (starts_of configuration count)))) (channel_words (fresh_of (start_in configuration at)))));
        }

    pub write_end : count ≤ at → words ≡ take HEAD words₀ ++ slots_of (map fresh_of (starts_of configuration count))
    write_end over =
        let whole : take (slot_start at) words ≡ words = take_all (slot_start at) words (omega (arith, v.long, v.inside)) in
        sym whole ∙ v.so_far ∙ rw (take_all at (starts_of configuration count) (omega (arith, starts_length configuration count)))

-- both, one behind the other
pub all_written : (rest headed words' slots : List ℕ) (datalink count hello limit codes counted : ℕ) → headed ≡ head_words datalink counted hello limit codes ++ rest → counted ≡ count → words' ≡ take HEAD headed ++ slots
    → words' ≡ head_words datalink count hello limit codes ++ slots
all_written rest headed words' slots datalink count hello limit codes counted head is written = written ∙ rw (head, is)
