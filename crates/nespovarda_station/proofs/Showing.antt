-- What is shown of a channel: each way out of the function. Assumes nothing.
use Rattle.std.specs.Prelude.{Ok, Err}
use Prim.Native.Nat.{ℕ}
use mathlib.Core.Bool.{Bool, true, false}
use mathlib.Core.List.{List}
use mathlib.Core.Path.{◌≡◌, refl, ap, ◌∙◌}
use Rattle.facts.proofs.Tests.{clash}
use Rattle.quantity.specs.declared.refusal.Refusal.{Refusal}
use Rattle.answer_codes.specs.declared.Answer.{Answer}
use Rattle.answer_codes.specs.Codes.{Outcome, code_of, refused_as}
use Rattle.radio_end_state.specs.declared.channel.Channel.{Channel}
use Rattle.radio_end_state.specs.State.{State, channel_at}
use Rattle.radio_end_state.specs.Limits.{state_fits, is_configured, index_in}
use Rattle.radio_end.specs.Shown.{shown_of}
use Rattle.radio_end.proofs.Showing.{shown_nineteen, shown_twelve, shown_channel}
use Rattle.nespovarda_station.specs.Shown.{channel_numbers, ShowsChannel}

module _ (s : State) (id : ℕ) where
  pub shows_channel : (found : Channel) → Ok found ≡ shown_of s id → (before : List ℕ) (a : Answer) → a ≡ code_of Outcome.shown
      → (after : List ℕ) → after ≡ channel_numbers found → ShowsChannel s id before a after
  shows_channel found is before a said after are = go (state_fits s) refl (is_configured s id) refl
    where
      go : (fits : Bool) → state_fits s ≡ fits → (had : Bool) → is_configured s id ≡ had → ShowsChannel s id before a after
      go false f had h = clash (cc (is ∙ shown_nineteen s id f))
      go true f false h = clash (cc (is ∙ shown_twelve s id f h))
      go true f true h =
          let same : found ≡ channel_at s (index_in s id) = cc (is ∙ shown_channel s id f h) in
          record { answer_is = rw (f, h) said; numbers_are = rw (f, h) (are ∙ ap (λ (c : Channel). channel_numbers c) same) }

  pub shows_refused : (refusal : Refusal) → Err refusal ≡ shown_of s id → (before : List ℕ) (a : Answer) → a ≡ code_of (refused_as refusal)
      → ShowsChannel s id before a before
  shows_refused refusal is before a said = go (state_fits s) refl (is_configured s id) refl
    where
      go : (fits : Bool) → state_fits s ≡ fits → (had : Bool) → is_configured s id ≡ had → ShowsChannel s id before a before
      go false f had h =
          let same : refusal ≡ record { number = 19; place = 0 } = cc (is ∙ shown_nineteen s id f) in
          record { answer_is = rw (said, same, f); numbers_are = rw f }
      go true f false h =
          let same : refusal ≡ record { number = 12; place = 0 } = cc (is ∙ shown_twelve s id f h) in
          record { answer_is = rw (said, same, f, h); numbers_are = rw (f, h) }
      go true f true h = clash (cc (is ∙ shown_channel s id f h))
