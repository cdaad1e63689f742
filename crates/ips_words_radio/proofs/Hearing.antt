-- The channels are told something one after another. Assumes nothing.
use Rattle.std.specs.Prelude.{Option}
use Rattle.quantity.specs.declared.count.LinkInstanceId.{LinkInstanceId}
use Prim.Native.Nat.{ℕ, zero, suc, ◌+◌, ◌*◌, ◌-◌, ◌≤◌, ◌<◌}
use mathlib.Core.Bool.{true}
use mathlib.Core.List.{List}
use mathlib.Core.Logic.{⊎_elim}
use mathlib.Core.Path.{◌≡◌, refl, sym, ap, ◌∙◌}
use native.Mathlib.Nat.{eq-or-lt_of_le}
use native.Mathlib.Numerals.{add-one}
use native.Mathlib.Omega.{arith}
use borrow.Rule.Slice.PartMut.{put_mid}
use lib.ListN.{length, take, drop, get_or}
use lib.Seq.{drop-drop}
use Rattle.quantity.specs.Limits.{MOST-CHANNELS, RESERVED-CHANNEL}
use Rattle.meaning.specs.declared.message.Window.{Window}
use Rattle.meaning.specs.declared.message.Control.{Control}
use Rattle.ips_state.specs.Limits.{state_fits}
use Rattle.ips_state.proofs.Channels.{ChannelFit}
use Rattle.ips_state.proofs.Places.{fit, channel_fitting_at}
use Rattle.ips_radio.specs.Heard.{status_in, window_in}
use Rattle.ips_words.specs.Words.{HEAD, SLOT, ID, COUNT-WORD, words_for, word, slot, slot_start, put_slot, channel_in, state_in}
use Rattle.ips_words.proofs.Whole.{slot_length, slot_word, slot_put_length, slot_put_same, slot_put_other, slot_put_head, readable_facts, fit_readable, fit_count, fit_channel}
use Rattle.ips_words_radio.specs.HeardWords.{heard_part, told_slot, told_slots, heard_slots, instance_heard}
use Rattle.ips_words_radio.proofs.Parts.{part_length, instance_length_lem}

-- ---- the first channels of the words, so many
module _ (status : ℕ → Option ℕ) (window : ℕ → Option Window) (words : List ℕ) where
  abbrev told_to : ℕ → List ℕ
  told_to n = told_slots status window words n

  pub record Passed (n : ℕ) : Type 0 where
    pub long : length (told_to n) ≡ length words
    pub head : (k : ℕ) → k < HEAD → word (told_to n) k ≡ word words k
    pub done : (i : ℕ) → i < n → slot (told_to n) i ≡ told_slot status window (slot words i)
    pub rest : (i : ℕ) → n ≤ i → slot (told_to n) i ≡ slot words i

  passed_more : (n : ℕ) → slot_start (suc n) ≤ length words → Passed n → Passed (suc n)
  unfolding told_slots
  passed_more n room before = record {
    long = slot_put_length was n space part part_long ∙ before.long;
    head = λ k h. slot_put_head was n space part part_long k h ∙ before.head k h;
    done = done;
    rest = λ i h. slot_put_other was n space part part_long i (λ e. omega arith) ∙ before.rest i (omega arith);
  }
    where
      was : List ℕ
      was = told_to n

      part : List ℕ
      part = told_slot status window (slot was n)

      space : slot_start n + SLOT ≤ length was
      space = omega (arith, before.long)

      part_long : length part ≡ SLOT
      part_long = part_length _ _ (slot was n) ∙ slot_length was n space

      done : (i : ℕ) → i < suc n → slot (put_slot was n part) i ≡ told_slot status window (slot words i)
      done i h =
          ⊎_elim (λ (e : i ≡ n). rw e (slot_put_same was n space part part_long ∙ ap (told_slot status window) (before.rest n (omega arith))))
          (λ (l : i < n). slot_put_other was n space part part_long i (λ e. omega arith) ∙ before.done i l) (eq-or-lt_of_le (omega arith))

  pub passed : (n : ℕ) → slot_start n ≤ length words → Passed n
  unfolding told_slots
  passed zero room = record { long = refl; head = λ k h. refl; done = λ i h. absurd (omega arith); rest = λ i h. refl }
  passed (suc n) room = passed_more n room (passed n (omega arith))

fit_long : (words : List ℕ) → state_fits (state_in words) ≡ true → length words ≡ words_for (word words COUNT-WORD)
fit_long words t = (readable_facts words (fit_readable words t)).long

pub head_there : (words : List ℕ) → state_fits (state_in words) ≡ true → HEAD ≤ length words
head_there words t = omega (arith, fit_long words t)

pub all_passed : (status : ℕ → Option ℕ) (window : ℕ → Option Window) (words : List ℕ) → state_fits (state_in words) ≡ true → Passed status window words (word words COUNT-WORD)
all_passed status window words t = passed status window words (word words COUNT-WORD) (omega (arith, fit_long words t))

-- ---- the loop
pub record Hears (words : List ℕ) (status : ℕ → Option ℕ) (window : ℕ → Option Window) (count : ℕ) (words' : List ℕ) (at : ℕ) : Type 0 where
  pub fits : state_fits (state_in words) ≡ true
  pub count_is : count ≡ word words COUNT-WORD
  pub inside : at ≤ count
  pub heard : words' ≡ told_slots status window words at

pub hears_start : (words : List ℕ) (status : ℕ → Option ℕ) (window : ℕ → Option Window) (count : ℕ) → state_fits (state_in words) ≡ true → count ≡ word words COUNT-WORD → Hears words status window count words 0
unfolding told_slots
hears_start words status window count t e = record { fits = t; count_is = e; inside = omega arith; heard = refl }

module _ (words : List ℕ) (status : ℕ → Option ℕ) (window : ℕ → Option Window) (count : ℕ) (words' : List ℕ) (at : ℕ) (h : Hears words status window count words' at) where
  pub few : count ≤ MOST-CHANNELS
  few = omega (arith, h.count_is, fit_count words h.fits, (fit (state_in words) h.fits).few)

  room : slot_start count ≤ length words
  room = omega (arith, h.count_is, fit_long words h.fits)

  passed_here : Passed status window words at
  passed_here = passed status window words at (omega (arith, room, h.inside))

  pub same_long : length words' ≡ length words
  same_long = rw h.heard passed_here.long

  module _ (within : at < count) where
    pub slot_ends : slot_start at + SLOT ≤ length words'
    slot_ends = omega (arith, same_long, room)

    pub from_few : slot_start at ≤ HEAD + SLOT * MOST-CHANNELS
    from_few = omega (arith, few)

    same_slot : slot words' at ≡ slot words at
    same_slot = rw h.heard (passed_here.rest at (omega arith))

    lent_slot : take (slot_start at + SLOT - slot_start at) (drop (slot_start at) words') ≡ slot words' at
    unfolding slot
    lent_slot = let n : slot_start at + SLOT - slot_start at ≡ SLOT = omega arith in rw n

    pub lent_long : length (take (slot_start at + SLOT - slot_start at) (drop (slot_start at) words')) ≡ SLOT
    lent_long = rw lent_slot (slot_length words' at (omega (arith, slot_ends)))

    id_same : get_or words' (slot_start at + ID) 0 ≡ word (slot words' at) ID
    id_same = sym (slot_word words' at ID (omega arith))

    fitting_here : ChannelFit (channel_in (slot words at))
    fitting_here =
        let inside : at < length (state_in words).channels = omega (arith, h.count_is, fit_count words h.fits) in
        rw (fit_channel words h.fits at inside) at (channel_fitting_at (state_in words) h.fits at inside)

    pub id_here : (id : ℕ) → id ≡ get_or words' (slot_start at + ID) 0 → id < RESERVED-CHANNEL
    unfolding channel_in
    id_here id e = rw (e, id_same, same_slot) fitting_here.unreserved

    module _ (id : ℕ) (read : id ≡ get_or words' (slot_start at + ID) 0) (part : List ℕ) (is : part ≡ heard_part (status id) (window id) (take (slot_start at + SLOT - slot_start at) (drop (slot_start at) words'))) where
      part_is : part ≡ told_slot status window (slot words' at)
      part_is = is ∙ rw (lent_slot, read, id_same)

      turn_words : put_mid (slot_start at) (slot_start at + SLOT - slot_start at) words' part ≡ told_slots status window words (suc at)
      unfolding told_slots put_slot
      turn_words = let n : slot_start at + SLOT - slot_start at ≡ SLOT = omega arith in rw (n, part_is, drop-drop, h.heard)

      pub hears_turn : Hears words status window count (put_mid (slot_start at) (slot_start at + SLOT - slot_start at) words' part) (at + 1)
      hears_turn = record {
        fits = h.fits;
        count_is = h.count_is;
        inside = omega arith;
        heard = turn_words ∙ ap (told_slots status window words) (sym (add-one at));
      }

  pub hears_end : count ≤ at → words' ≡ told_slots status window words (word words COUNT-WORD)
  hears_end over = let all : at ≡ word words COUNT-WORD = omega (arith, h.inside, h.count_is) in h.heard ∙ ap (told_slots status window words) all

-- ---- the head has room after each of the three writes
pub slots_room : (message : Control) (words w : List ℕ) → state_fits (state_in words) ≡ true → w ≡ heard_slots message words (word words COUNT-WORD) → HEAD ≤ length w
slots_room message words w t e = rw e (omega (arith, (all_passed (status_in message) (window_in message) words t).long, head_there words t))

pub instance_room : (given : Option (LinkInstanceId × ℕ)) (w w' : List ℕ) → HEAD ≤ length w → w' ≡ instance_heard given w → HEAD ≤ length w'
instance_room given w w' h e = rw e (omega (arith, instance_length_lem w given))
