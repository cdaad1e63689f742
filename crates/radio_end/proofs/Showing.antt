-- What is shown of a channel, and how many words a state asks for. Assumes nothing.
use Rattle.std.specs.Prelude.{Ok, Err}
use Prim.Native.Nat.{ℕ, ◌+◌, ◌*◌, ◌≤◌, ◌<◌}
use mathlib.Core.Bool.{Bool, true, false}
use mathlib.Core.List.{List}
use mathlib.Core.Path.{◌≡◌, refl, ap, ◌∙◌}
use borrow.Author.Tests.{le-leb, lt-leb}
use lib.ListN.{length}
use Rattle.quantity.specs.Limits.{FEWEST-CHANNELS, MOST-CHANNELS}
use Rattle.quantity.specs.Refusals.{NO-CHANNEL, OUTSIDE-LIMITS}
use Rattle.quantity.specs.declared.refusal.Refusal.{Refusal}
use Rattle.radio_end_state.specs.declared.channel.Channel.{Channel}
use Rattle.radio_end_state.specs.State.{State, channel_at}
use Rattle.radio_end_state.specs.Limits.{state_fits, is_configured, index_in}
use Rattle.radio_end_run.proofs.Places.{id_at_lem, lacks_it, has_it}
use Rattle.radio_end_words.specs.Words.{state_in, Placed}
use Rattle.radio_end_telling.specs.Left.{found_of}
use Rattle.radio_end_telling.proofs.Settling.{found_at, found_placed}
use Rattle.radio_end.specs.Shown.{words_needed, refused_show, shown_of}

-- ---- how many words: from 1 to 64 channels, in literal numbers
pub needs_none : (channels : ℕ) → channels < 1 → 0 ≡ words_needed channels
unfolding words_needed
needs_none channels h = rw (lt-leb FEWEST-CHANNELS channels h)

module _ (channels : ℕ) (some : 1 ≤ channels) where
  pub needs_many : 64 < channels → 0 ≡ words_needed channels
  unfolding words_needed
  needs_many h = rw (le-leb FEWEST-CHANNELS channels some, lt-leb channels MOST-CHANNELS h)

  pub needs_words : channels ≤ 64 → 8 + 8 * channels ≡ words_needed channels
  unfolding words_needed
  needs_words h = rw (le-leb FEWEST-CHANNELS channels some, le-leb channels MOST-CHANNELS h)

-- ---- a channel, by where it is found
module _ (words : List ℕ) (id : ℕ) where
  pub show_placed : (i : ℕ) → Ok i ≡ found_of (state_in words) id → Placed words i
  show_placed i e = found_placed words id i (found_at (state_in words) id i e)

  pub show_channel : (i : ℕ) → Ok i ≡ found_of (state_in words) id → (c : Channel) → c ≡ channel_at (state_in words) i → Ok c ≡ shown_of (state_in words) id
  unfolding shown_of
  show_channel i e c is =
      let f = found_at (state_in words) id i e in
      rw (f.fits, f.has, is, f.index_is)

  pub show_refused : (r : Refusal) → Err r ≡ found_of (state_in words) id → Err r ≡ shown_of (state_in words) id
  unfolding shown_of found_of
  show_refused r e = go (state_fits (state_in words)) refl (is_configured (state_in words) id) refl
    where
      go : (a : Bool) → state_fits (state_in words) ≡ a → (b : Bool) → is_configured (state_in words) id ≡ b → Err r ≡ shown_of (state_in words) id
      go true f true g =
          let at : Err r ≡ Ok (index_in (state_in words) id) = rw (f, g) at e in
          absurd cc
      go true f false g =
          let at : Err r ≡ Err (record { number = NO-CHANNEL; place = 0 }) = rw (f, g) at e in
          let same : r ≡ record { number = NO-CHANNEL; place = 0 } = cc in
          rw (f, g, same)
      go false f b g =
          let at : Err r ≡ Err (record { number = OUTSIDE-LIMITS; place = 0 }) = rw f at e in
          let same : r ≡ record { number = OUTSIDE-LIMITS; place = 0 } = cc in
          rw (f, same)

-- ---- the same of a state, by plain facts: 19, then 12, else the channel that has the ID
module _ (s : State) (id : ℕ) where
  pub shown_nineteen : state_fits s ≡ false → shown_of s id ≡ Err (record { number = 19; place = 0 })
  unfolding shown_of
  shown_nineteen e = rw e

  pub shown_twelve : state_fits s ≡ true → is_configured s id ≡ false → shown_of s id ≡ Err (record { number = 12; place = 0 })
  unfolding shown_of
  shown_twelve e f = rw (e, f)

  pub shown_channel : state_fits s ≡ true → is_configured s id ≡ true → shown_of s id ≡ Ok (channel_at s (index_in s id))
  unfolding shown_of
  shown_channel e f = rw (e, f)

  -- a channel that is shown has the ID that was asked for
  pub shown_own : (c : Channel) → shown_of s id ≡ Ok c → c.setting.id ≡ id
  unfolding shown_of
  shown_own c e = go (state_fits s) refl (is_configured s id) refl
    where
      go : (a : Bool) → state_fits s ≡ a → (b : Bool) → is_configured s id ≡ b → c.setting.id ≡ id
      go true f true g =
          let at : Ok (channel_at s (index_in s id)) ≡ Ok c = rw (f, g) at e in
          let same : c ≡ channel_at s (index_in s id) = cc in
          ap (λ (x : Channel). x.setting.id) same ∙ id_at_lem s id g
      go true f false g =
          let at : refused_show NO-CHANNEL ≡ Ok c = rw (f, g) at e in
          absurd cc
      go false f b g =
          let at : refused_show OUTSIDE-LIMITS ≡ Ok c = rw f at e in
          absurd cc

-- ---- and without an order of tests: the channel that has the ID, 12 where none has it
module _ (s : State) (fits : state_fits s ≡ true) where
  pub shown_at : (index : ℕ) → index < length s.channels → shown_of s (channel_at s index).setting.id ≡ Ok (channel_at s index)
  shown_at index inside =
      let found = has_it s fits index inside in
      shown_channel s (channel_at s index).setting.id fits found.0 ∙ ap (λ (i : ℕ). Ok (channel_at s i)) found.1

  pub shown_lacking : (id : ℕ) → ((index : ℕ) → index < length s.channels → (channel_at s index).setting.id ≡ id → ⊥)
      → shown_of s id ≡ Err (record { number = 12; place = 0 })
  shown_lacking id none = shown_twelve s id fits (lacks_it s id none)
