-- The pass over the channels. Assumes nothing.
use Prim.Native.Nat.{ℕ, ◌+◌, ◌-◌, ◌<◌}
use mathlib.Core.Bool.{Bool, true, false, ◌&&◌, and-false, and-eq-true_iff}
use mathlib.Core.List.{List}
use mathlib.Core.Path.{◌≡◌, refl, sym, ap, ◌∙◌}
use native.Mathlib.Omega.{arith}
use lib.ListN.{length, take, drop, get_or}
use Rattle.radio_end_state.specs.declared.channel.Channel.{Channel}
use Rattle.radio_end_state.specs.State.{no_channel}
use Rattle.radio_end_state.specs.Limits.{up_to, ids_fit, channel_fits, all_fit, ids}
use Rattle.radio_end_state.proofs.UpTo.{up_to_by, up_to_out}
use Rattle.radio_end_state.proofs.Fit.{ids_length}
use Rattle.radio_end_words.specs.Words.{SLOT, slot_start, slot, channel_in, state_of, spelled, all_spelled, Counted}
use Rattle.radio_end_words.proofs.Placing.{numbers_length, said_channel}

abbrev pub walked : List ℕ → ℕ → Bool
walked words count = all_spelled words count && (all_fit (state_of words).channels && ids_fit (ids (state_of words).channels))

-- the part that is lent is the channel's slot
pub part_is : (words : List ℕ) (index : ℕ) → take ((slot_start index + SLOT) - slot_start index) (drop (slot_start index) words) ≡ slot words index
unfolding slot
part_is words index =
    let size : (slot_start index + SLOT) - slot_start index ≡ SLOT = omega arith in
    rw size

module _ (words : List ℕ) (count : ℕ) (counted : Counted words count) where
  abbrev channels : List Channel
  channels = (state_of words).channels

  channels_long : length channels ≡ count
  channels_long = sym (ids_length channels) ∙ numbers_length words count counted

  fits_at : (i : ℕ) → i < count → channel_fits (get_or channels i no_channel) ≡ channel_fits (channel_in (slot words i))
  fits_at i h = ap channel_fits (said_channel words count counted i h)

  -- the pass over the channels: words that say something, and channels within the limits
  pub all_passed : ((i : ℕ) → i < count → (spelled (slot words i) && channel_fits (channel_in (slot words i))) ≡ true) → (all_spelled words count && all_fit channels) ≡ true
  unfolding all_spelled all_fit
  all_passed each =
      let two = λ (i : ℕ) (h : i < count). (and-eq-true_iff (spelled (slot words i)) (channel_fits (channel_in (slot words i)))).0 (each i h) in
      let spells : up_to (λ i. spelled (slot words i)) count ≡ true = up_to_by (λ i. spelled (slot words i)) count (λ i h. (two i h).0) in
      let fit : up_to (λ i. channel_fits (get_or channels i no_channel)) (length channels) ≡ true =
      up_to_by (λ i. channel_fits (get_or channels i no_channel)) (length channels) (λ i h. let low : i < count = omega (arith, channels_long) in fits_at i low ∙ (two i low).1) in
      rw (spells, fit)

  pub one_unfit : (i : ℕ) → i < count → (spelled (slot words i) && channel_fits (channel_in (slot words i))) ≡ false → (all_spelled words count && all_fit channels) ≡ false
  unfolding all_spelled all_fit
  one_unfit i h e = go (spelled (slot words i)) refl
    where
      go : (b : Bool) → spelled (slot words i) ≡ b → (all_spelled words count && all_fit channels) ≡ false
      go false f = rw (up_to_out (λ i. spelled (slot words i)) count i h f)
      go true f =
          let unfit : channel_fits (channel_in (slot words i)) ≡ false = rw f at e in
          let all : up_to (λ i. channel_fits (get_or channels i no_channel)) (length channels) ≡ false = up_to_out (λ i. channel_fits (get_or channels i no_channel)) (length channels) i (omega (arith, channels_long)) (fits_at i h ∙ unfit) in
          rw (all, and-false)
