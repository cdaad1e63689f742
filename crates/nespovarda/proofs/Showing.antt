-- What is shown of a channel, of a waiting packet, of what is kept and of the pacer: each way out of the functions. Assumes nothing.
use Rattle.std.specs.Prelude.{Option, Result, Ok, Err}
use Rattle.quantity.specs.declared.count.LinkInstanceId.{LinkInstanceId}
use Rattle.meaning.specs.declared.message.ContextBytes.{ContextBytes}
use Rattle.endpoint.specs.declared.shown.KeptShown.{KeptShown}
use Prim.Native.Nat.{ℕ, ◌≤◌, ◌<◌}
use mathlib.Core.Bool.{Bool, true, false}
use mathlib.Core.List.{List, [], ◌∷◌}
use mathlib.Core.Path.{◌≡◌, refl, sym, ap, ap₂, ◌∙◌}
use native.Mathlib.Omega.{arith}
use borrow.Author.Tests.{le-ltb, lt-ltb}
use lib.ListN.{length, get_or, replicate, length-replicate}
use Rattle.facts.proofs.Tests.{clash}
use Rattle.quantity.specs.Limits.{MOST-WAITING}
use Rattle.quantity.specs.Refusals.{NO-CHANNEL, OUTSIDE-LIMITS}
use Rattle.quantity.specs.declared.refusal.Refusal.{Refusal}
use Rattle.store.specs.Waiting.{no_entry}
use Rattle.store.proofs.Held.{well_sound}
use Rattle.pacer.specs.declared.Pacer.{Pacer}
use Rattle.answer_codes.specs.declared.Answer.{Answer}
use Rattle.answer_codes.specs.Codes.{Outcome, code_of, refused_as}
use Rattle.ips_channel.specs.declared.state.Channel.{Channel}
use Rattle.ips_state.specs.State.{State}
use Rattle.ips_state.specs.Limits.{ids, state_fits}
use Rattle.ips_state.specs.Memory.{start_of}
use Rattle.ips_state.proofs.Channels.{index_stands, ids_length}
use Rattle.ips_state.proofs.Places.{channel_fitting_at}
use Rattle.ips_words_survey.specs.declared.place.Found.{Found}
use Rattle.ips_words_survey.specs.Places.{found_at}
use Rattle.endpoint.specs.declared.shown.ChannelShown.{ChannelShown}
use Rattle.endpoint.specs.Shown.{shown_of, kept_of, pacer_of}
use Rattle.endpoint.proofs.Showing.{shown_nineteen, shown_twelve, shown_channel}
use Rattle.nespovarda.specs.Shown.{is_had, place_for, channel_for, outcome_for, numbers_for, Shows, channel_numbers, ShowsChannel, waiting_outcome, waiting_numbers, WaitingAt, ShowsWaiting, ShowsOwn, kept_numbers, ShowsKept, pacer_numbers, ShowsPacer}

place_in : {a b : ChannelShown} → a ≡ b → a.place ≡ b.place
place_in e = ap (λ (x : ChannelShown). x.place) e

-- ---- a channel that is there
pub record There (s : State) (id : ℕ) (r : ChannelShown) (there : Found) : Type 0 where
  pub fits : state_fits s ≡ true
  pub had : is_had s id ≡ true
  pub channel : r.channel ≡ channel_for s id
  pub start : there.start ≡ start_of s (place_for s id)

module _ (s : State) (id : ℕ) (r : ChannelShown) (is : r ≡ shown_of s id) where
  pub is_there : (there : Found) → r.place ≡ Ok there → There s id r there
  is_there there e = go (state_fits s) refl (is_had s id) refl
    where
      go : (fits : Bool) → state_fits s ≡ fits → (had : Bool) → is_had s id ≡ had → There s id r there
      go false f had h = clash (cc (sym e ∙ place_in (is ∙ shown_nineteen s id f)))
      go true f false h = clash (cc (sym e ∙ place_in (is ∙ shown_twelve s id f h)))
      go true f true h =
          let told = is ∙ shown_channel s id f h in
          let same : there ≡ found_at s (place_for s id) = cc (sym e ∙ place_in told) in
          record { fits = f; had = h; channel = ap (λ (x : ChannelShown). x.channel) told; start = ap (λ (x : Found). x.start) same }

  -- and one that isn't, by the number that says why
  pub shows_refused : (number : ℕ) → r.place ≡ Err number → (outcome : Outcome) (numbers before : List ℕ) (a : Answer)
      → a ≡ code_of (Outcome.refused number 0) → Shows s id outcome numbers before a before
  unfolding outcome_for numbers_for
  shows_refused number e outcome numbers before a said = go (state_fits s) refl (is_had s id) refl
    where
      go : (fits : Bool) → state_fits s ≡ fits → (had : Bool) → is_had s id ≡ had → Shows s id outcome numbers before a before
      go false f had h =
          let same : number ≡ OUTSIDE-LIMITS = cc (sym e ∙ place_in (is ∙ shown_nineteen s id f)) in
          record { answer_is = rw (said, same, f); numbers_are = rw f }
      go true f false h =
          let same : number ≡ NO-CHANNEL = cc (sym e ∙ place_in (is ∙ shown_twelve s id f h)) in
          record { answer_is = rw (said, same, f, h); numbers_are = rw (f, h) }
      go true f true h = clash (cc (sym e ∙ place_in (is ∙ shown_channel s id f h)))

module _ (s : State) (id : ℕ) (r : ChannelShown) (there : Found) (t : There s id r there) where
  shows : (outcome : Outcome) (numbers before : List ℕ) (a : Answer) → a ≡ code_of outcome → (after : List ℕ) → after ≡ numbers → Shows s id outcome numbers before a after
  unfolding outcome_for numbers_for
  shows outcome numbers before a said after are = record { answer_is = rw (t.fits, t.had) said; numbers_are = rw (t.fits, t.had) are }

  pub shows_channel : (before : List ℕ) (a : Answer) → a ≡ code_of Outcome.shown → (after : List ℕ) → after ≡ channel_numbers r.channel there.start → ShowsChannel s id before a after
  shows_channel before a said after are =
      shows Outcome.shown _ before a said after (are ∙ ap₂ {C = List ℕ} (λ (c : Channel) (n : ℕ). channel_numbers c n) t.channel t.start)

  pub shows_waiting : (position : ℕ) (before : List ℕ) (a : Answer) (after : List ℕ) → WaitingAt r.channel position before a after → ShowsWaiting s id position before a after
  shows_waiting position before a after w =
      shows _ _ before a (w.answer_is ∙ ap (λ (c : Channel). code_of (waiting_outcome c position)) t.channel) after
      (w.numbers_are ∙ ap (λ (c : Channel). waiting_numbers c position before) t.channel)

  -- "more than 32 waiting" is refused by 19
  pub few_wait : r.channel.queue.count ≤ MOST-WAITING
  few_wait =
      let at : place_for s id < length s.channels = omega (arith, (index_stands id (ids s.channels) t.had).inside, ids_length s.channels) in
      let c = channel_for s id in
      let sound = well_sound c.queue c.setting.size.0 (channel_fitting_at s t.fits (place_for s id) at).well_formed_lem (replicate c.setting.size.0 0) (length-replicate c.setting.size.0 0) in
      rw t.channel sound.few

-- ---- a waiting packet, at a position behind the last and before it
module _ (c : Channel) (position : ℕ) (before : List ℕ) (a : Answer) where
  pub none_waits : c.queue.count ≤ position → a ≡ code_of Outcome.none_there → WaitingAt c position before a before
  unfolding waiting_outcome waiting_numbers
  none_waits past said = record { answer_is = rw (le-ltb position c.queue.count past) said; numbers_are = rw (le-ltb position c.queue.count past) }

  module _ (within : position < c.queue.count) (said : a ≡ code_of Outcome.shown) where
    pub one_waits : (size expiry : ℕ) → size ≡ (get_or c.queue.entries position no_entry).length.0 → expiry ≡ (get_or c.queue.entries position no_entry).expiry
        → WaitingAt c position before a (size ∷ expiry ∷ [])
    unfolding waiting_outcome waiting_numbers
    one_waits size expiry e f =
        record { answer_is = rw (lt-ltb position c.queue.count within) said; numbers_are = rw (lt-ltb position c.queue.count within, e, f) }

-- ---- of the endpoint itself, within the limits and outside them
module _ (s : State) (outcome : Outcome) (numbers before : List ℕ) (a : Answer) where
  own_shown : state_fits s ≡ true → a ≡ code_of outcome → (after : List ℕ) → after ≡ numbers → ShowsOwn s outcome numbers before a after
  own_shown f said after are = record { answer_is = rw f said; numbers_are = rw f are }

  own_refused : state_fits s ≡ false → (refusal : Refusal) → refusal ≡ record { number = OUTSIDE-LIMITS; place = 0 } → a ≡ code_of (refused_as refusal) → ShowsOwn s outcome numbers before a before
  own_refused f refusal same said = record { answer_is = rw f (said ∙ ap (λ (x : Refusal). code_of (refused_as x)) same); numbers_are = rw f }

-- what is kept
module _ (s : State) (r : Result KeptShown Refusal) (is : r ≡ kept_of s) (before : List ℕ) (a : Answer) where
  kept_fits : state_fits s ≡ true → r ≡ Ok (record { instance = s.instance; context = s.context })
  unfolding kept_of
  kept_fits f = rw f at is

  kept_unfit : state_fits s ≡ false → r ≡ Err (record { number = OUTSIDE-LIMITS; place = 0 })
  unfolding kept_of
  kept_unfit f = rw f at is

  pub shows_kept : (held : KeptShown) → r ≡ Ok held → a ≡ code_of Outcome.kept → (after : List ℕ) → after ≡ kept_numbers held.instance held.context → ShowsKept s before a after
  shows_kept held e said after are = go (state_fits s) refl
    where
      go : (fits : Bool) → state_fits s ≡ fits → ShowsKept s before a after
      go true f =
          let same : held ≡ record { instance = s.instance; context = s.context } = cc (sym e ∙ kept_fits f) in
          own_shown s _ _ before a f said after (are ∙ ap (λ (shown : KeptShown). kept_numbers shown.instance shown.context) same)
      go false f = clash (cc (sym e ∙ kept_unfit f))

  pub kept_refused : (refusal : Refusal) → r ≡ Err refusal → a ≡ code_of (refused_as refusal) → ShowsKept s before a before
  kept_refused refusal e said = go (state_fits s) refl
    where
      go : (fits : Bool) → state_fits s ≡ fits → ShowsKept s before a before
      go true f = clash (cc (sym e ∙ kept_fits f))
      go false f = own_refused s _ _ before a f refusal (cc (sym e ∙ kept_unfit f)) said

-- the pacer
module _ (s : State) (r : Result Pacer Refusal) (is : r ≡ pacer_of s) (before : List ℕ) (a : Answer) where
  pacer_fits_lem : state_fits s ≡ true → r ≡ Ok s.pacer
  unfolding pacer_of
  pacer_fits_lem f = rw f at is

  pacer_unfit : state_fits s ≡ false → r ≡ Err (record { number = OUTSIDE-LIMITS; place = 0 })
  unfolding pacer_of
  pacer_unfit f = rw f at is

  pub shows_pacer : (pacer : Pacer) → r ≡ Ok pacer → a ≡ code_of Outcome.pacer_shown → (after : List ℕ) → after ≡ pacer_numbers pacer → ShowsPacer s before a after
  shows_pacer pacer e said after are = go (state_fits s) refl
    where
      go : (fits : Bool) → state_fits s ≡ fits → ShowsPacer s before a after
      go true f =
          let same : pacer ≡ s.pacer = cc (sym e ∙ pacer_fits_lem f) in
          own_shown s _ _ before a f said after (are ∙ ap (λ (p : Pacer). pacer_numbers p) same)
      go false f = clash (cc (sym e ∙ pacer_unfit f))

  pub pacer_refused : (refusal : Refusal) → r ≡ Err refusal → a ≡ code_of (refused_as refusal) → ShowsPacer s before a before
  pacer_refused refusal e said = go (state_fits s) refl
    where
      go : (fits : Bool) → state_fits s ≡ fits → ShowsPacer s before a before
      go true f = clash (cc (sym e ∙ pacer_fits_lem f))
      go false f = own_refused s _ _ before a f refusal (cc (sym e ∙ pacer_unfit f)) said
