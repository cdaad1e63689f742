-- Each way out of a call. Assumes nothing.
use Rattle.std.specs.Prelude.{Option, Result, Ok, Err, None}
use Rattle.meaning.specs.declared.message.ContextBytes.{ContextBytes}
use Prim.Native.Nat.{ℕ, ◌≤◌, ◌<◌}
use mathlib.Core.Bool.{Bool, true, false, cond, not}
use mathlib.Core.List.{List}
use mathlib.Core.Path.{◌≡◌, refl, sym, ap, ◌∙◌}
use native.Mathlib.Omega.{arith}
use borrow.Author.Tests.{ltb-true, lt-ltb, le-ltb}
use lib.ListN.{length, get_or, replicate, get_or-eq_default}
use Rattle.quantity.specs.declared.count.ByteCount.{ByteCount}
use Rattle.quantity.specs.declared.refusal.Refusal.{Refusal}
use Rattle.quantity.specs.Refusals.{NO-CHANNEL, NO-ROOM, OUTSIDE-LIMITS}
use Rattle.wire.specs.Options.{over}
use Rattle.meaning.specs.declared.message.End.TheVariants as ends
use Rattle.writable.specs.Allowed.{context_allowed}
use Rattle.writer.specs.Written.{no_room_of, Outcome}
use Rattle.radio_end_state.specs.declared.answer.Answer.{Answer}
use Rattle.radio_end_state.specs.declared.channel.Channel.{Channel}
use Rattle.radio_end_state.specs.Channel.{channel_differs}
use Rattle.radio_end_state.specs.State.{State, no_channel, channel_at, with_channel, with_context}
use Rattle.radio_end_state.specs.Limits.{ids, has_id, is_configured, index_in, state_fits}
use Rattle.radio_end_state.specs.Message.{message_bytes, same_context, differs}
use Rattle.radio_end_state.specs.Calls.{After, refused_at, refused_by, telling, settling, changing, within, configured}
use Rattle.radio_end_state.proofs.Fit.{ids_length, channel_fit, fit_facts}
use Rattle.radio_end_words.specs.Words.{state_words, state_in, Placed}
use Rattle.radio_end_message.specs.Changed.{changed, Change}
use Rattle.radio_end_telling.specs.Left.{is_refused, Left, found_of, Settles}
use Rattle.radio_end_telling.proofs.Changing.{changed_channel, changed_context, differs_channel, differs_context}

abbrev pub came : Result Answer Refusal → State → List ℕ → After
came answer s out = record { answer = answer; state = s; output = out }

-- ---- from what a call comes to, to what it leaves
pub left_by_lem : (after : After) (words : List ℕ) (answer : Result Answer Refusal) (s : State) (words' out' : List ℕ) → after ≡ came answer s out' → words' ≡ cond (is_refused answer) words (state_words s) → Left after words answer words' out'
left_by_lem after words answer s words' out' e w = rw e (record { answer_is = refl; words_are = w; output_is = refl })

-- ---- a message to write
module _ (say : ByteCount → Result Answer Refusal) (before after : State) (out : List ℕ) (answer : Result ByteCount Refusal) (out' : List ℕ) (o : Outcome true (message_bytes after) out answer out') where
  abbrev size : ℕ
  size = length (message_bytes after)

  pub told_wrote : (n : ByteCount) → answer ≡ Ok n → telling say before after out ≡ came (say n) after out'
  unfolding telling
  told_wrote n e = go (no_room_of size (length out)) refl
    where
      go : (b : Bool) → no_room_of size (length out) ≡ b → telling say before after out ≡ came (say n) after out'
      go true f =
          let clash : Err (record { number = NO-ROOM; place = 0 }) ≡ Ok n = sym (rw f at o.answers) ∙ e in
          absurd cc
      go false f =
          let wrote : answer ≡ Ok (record { 0 = size }) = rw f at o.answers in
          let bytes : out' ≡ over (message_bytes after) out = rw f at o.bytes_are in
          let same : n ≡ record { 0 = size } = cc in
          rw (f, same, bytes)

  pub told_refused : (r : Refusal) → answer ≡ Err r → telling say before after out ≡ came (Err r) before out'
  unfolding telling
  told_refused r e = go (no_room_of size (length out)) refl
    where
      go : (b : Bool) → no_room_of size (length out) ≡ b → telling say before after out ≡ came (Err r) before out'
      go true f =
          let no_room : answer ≡ Err (record { number = NO-ROOM; place = 0 }) = rw f at o.answers in
          let bytes : out' ≡ out = rw f at o.bytes_are in
          let same : r ≡ record { number = NO-ROOM; place = 0 } = cc in
          rw (f, same, bytes)
      go false f =
          let clash : Ok (record { 0 = size }) ≡ Err r = sym (rw f at o.answers) ∙ e in
          absurd cc

-- ---- a change settled
settled_quiet : (before after : State) (out : List ℕ) → differs before after ≡ false → settling before after out ≡ came (Ok Answer.Quiet) after out
unfolding settling
settled_quiet before after out e = rw e

settled_told : (before after : State) (out : List ℕ) → differs before after ≡ true → settling before after out ≡ telling (λ n. Ok (Answer.Unasked n)) before after out
unfolding settling
settled_told before after out e = rw e

module _ (words : List ℕ) (index : ℕ) (c : Channel) (settles : Settles words (state_in words) index c) where
  abbrev s : State
  s = state_in words

  pub settle_change : (k : Option (ContextBytes × ℕ)) → k ≡ s.context → Change s k index c
  settle_change k e =
      record { replaces = record { fits = settles.placed.fits; same_id = settles.same_id }; low = settles.low; context_allowed_lem = rw e (fit_facts s settles.placed.fits).context }

  module _ (out : List ℕ) (r : Bool) (is : r ≡ channel_differs (channel_at s index) c) where
    tells : differs s (with_channel s index c) ≡ r
    tells = differs_channel s index c settles.placed.inside ∙ sym is

    pub channel_quiet : r ≡ false → (words' : List ℕ) → words' ≡ state_words (with_channel s index c) → Left (settling s (with_channel s index c) out) words (Ok Answer.Quiet) words' out
    channel_quiet e words' w = left_by_lem _ words (Ok Answer.Quiet) (with_channel s index c) words' out (settled_quiet s (with_channel s index c) out (tells ∙ e)) w

    module _ (e : r ≡ true) (n : ℕ) (k : Option (ContextBytes × ℕ)) (is-kept : k ≡ s.context) (answer : Result ByteCount Refusal) (out' : List ℕ) (o : Outcome true (message_bytes (changed s k index c (replicate n None))) out answer out') where
      written : Outcome true (message_bytes (with_channel s index c)) out answer out'
      written =
          let same : changed s k index c (replicate n None) ≡ with_channel s index c = ap (λ (x : Option (ContextBytes × ℕ)). changed s x index c (replicate n None)) is-kept ∙ changed_channel n s index c in
          rw same at o

      pub channel_wrote : (b : ByteCount) → answer ≡ Ok b → (words' : List ℕ) → words' ≡ state_words (with_channel s index c) → Left (settling s (with_channel s index c) out) words (Ok (Answer.Unasked b)) words' out'
      channel_wrote b f words' w =
          left_by_lem _ words (Ok (Answer.Unasked b)) (with_channel s index c) words' out' (settled_told s (with_channel s index c) out (tells ∙ e) ∙ told_wrote (λ n. Ok (Answer.Unasked n)) s (with_channel s index c) out answer out' written b f) w

      pub channel_refused : (x : Refusal) → answer ≡ Err x → Left (settling s (with_channel s index c) out) words (Err x) words out'
      channel_refused x f =
          left_by_lem _ words (Err x) s words out' (settled_told s (with_channel s index c) out (tells ∙ e) ∙ told_refused (λ n. Ok (Answer.Unasked n)) s (with_channel s index c) out answer out' written x f) refl

-- ---- no channel takes the place of another
pub past_change : (s : State) (k : Option (ContextBytes × ℕ)) (n : ℕ) (c : Channel) → state_fits s ≡ true → context_allowed ends.Radio k ≡ true → n ≡ length s.channels → c ≡ no_channel → Change s k n c
unfolding channel_at
past_change s k n c fits allowed e is =
    let none : get_or s.channels n no_channel ≡ no_channel = get_or-eq_default s.channels no_channel (omega arith) in
    record { replaces = record { fits = fits; same_id = rw (none, is) }; low = rw is (omega arith); context_allowed_lem = allowed }

-- ---- the Context
module _ (words : List ℕ) (after : Option (ContextBytes × ℕ)) (out : List ℕ) (before : Option (ContextBytes × ℕ)) (kept : before ≡ (state_in words).context) (r : Bool) (is : r ≡ same_context before after) where
  differs_by : differs (state_in words) (with_context (state_in words) after) ≡ not r
  differs_by = differs_context (state_in words) after ∙ ap not (sym (is ∙ ap (λ (k : Option (ContextBytes × ℕ)). same_context k after) kept))

  pub context_quiet : r ≡ true → (words' : List ℕ) → words' ≡ state_words (with_context (state_in words) after) → Left (settling (state_in words) (with_context (state_in words) after) out) words (Ok Answer.Quiet) words' out
  context_quiet e words' w =
      left_by_lem _ words (Ok Answer.Quiet) (with_context (state_in words) after) words' out (settled_quiet (state_in words) (with_context (state_in words) after) out (differs_by ∙ ap not e)) w

  module _ (e : r ≡ false) (m n : ℕ) (many : n ≡ length (state_in words).channels) (c : Channel) (none : c ≡ no_channel) (answer : Result ByteCount Refusal) (out' : List ℕ) (o : Outcome true (message_bytes (changed (state_in words) after n c (replicate m None))) out answer out') where
    context_written : Outcome true (message_bytes (with_context (state_in words) after)) out answer out'
    context_written =
        let same : changed (state_in words) after n c (replicate m None) ≡ with_context (state_in words) after =
        ap (λ (x : ℕ). changed (state_in words) after x c (replicate m None)) many ∙ ap (λ (x : Channel). changed (state_in words) after (length (state_in words).channels) x (replicate m None)) none
        ∙ changed_context m (state_in words) after in
        rw same at o

    pub context_wrote : (b : ByteCount) → answer ≡ Ok b → (words' : List ℕ) → words' ≡ state_words (with_context (state_in words) after)
        → Left (settling (state_in words) (with_context (state_in words) after) out) words (Ok (Answer.Unasked b)) words' out'
    context_wrote b f words' w =
        left_by_lem _ words (Ok (Answer.Unasked b)) (with_context (state_in words) after) words' out'
        (settled_told (state_in words) (with_context (state_in words) after) out (differs_by ∙ ap not e) ∙ told_wrote (λ n. Ok (Answer.Unasked n)) (state_in words) (with_context (state_in words) after) out answer out' context_written b f) w

    pub context_refused : (x : Refusal) → answer ≡ Err x → Left (settling (state_in words) (with_context (state_in words) after) out) words (Err x) words out'
    context_refused x f =
        left_by_lem _ words (Err x) (state_in words) words out'
        (settled_told (state_in words) (with_context (state_in words) after) out (differs_by ∙ ap not e) ∙ told_refused (λ n. Ok (Answer.Unasked n)) (state_in words) (with_context (state_in words) after) out answer out' context_written x f) refl

-- ---- where a channel is found
pub has_inside : (s : State) (id : ℕ) → is_configured s id ≡ true → index_in s id < length s.channels
unfolding has_id
has_inside s id e = omega (arith, ltb-true (index_in s id) (length (ids s.channels)) e, ids_length s.channels)

module _ (s : State) (id : ℕ) where
  pub find_unfit : state_fits s ≡ false → Err (record { number = OUTSIDE-LIMITS; place = 0 }) ≡ found_of s id
  unfolding found_of
  find_unfit e = rw e

  pub find_at : state_fits s ≡ true → (i n : ℕ) → i ≡ index_in s id → n ≡ length s.channels → i < n → Ok i ≡ found_of s id
  unfolding found_of has_id
  find_at e i n is many h = rw (e, lt-ltb (index_in s id) (length (ids s.channels)) (omega (arith, ids_length s.channels)), is)

  pub find_none : state_fits s ≡ true → (i n : ℕ) → i ≡ index_in s id → n ≡ length s.channels → n ≤ i → Err (record { number = NO-CHANNEL; place = 0 }) ≡ found_of s id
  unfolding found_of has_id
  find_none e i n is many h = rw (e, le-ltb (index_in s id) (length (ids s.channels)) (omega (arith, ids_length s.channels)))

  -- what was tested where it was found
  pub record FoundAt (i : ℕ) : Type 0 where
    pub fits : state_fits s ≡ true
    pub has : is_configured s id ≡ true
    pub index_is : i ≡ index_in s id

  pub found_at : (i : ℕ) → Ok i ≡ found_of s id → FoundAt i
  unfolding found_of
  found_at i e = go (state_fits s) refl (is_configured s id) refl
    where
      go : (a : Bool) → state_fits s ≡ a → (b : Bool) → is_configured s id ≡ b → FoundAt i
      go true f true g =
          let at : Ok i ≡ Ok (index_in s id) = rw (f, g) at e in
          record { fits = f; has = g; index_is = cc }
      go true f false g =
          let at : Ok i ≡ Err (record { number = NO-CHANNEL; place = 0 }) = rw (f, g) at e in
          absurd cc
      go false f b g =
          let at : Ok i ≡ Err (record { number = OUTSIDE-LIMITS; place = 0 }) = rw f at e in
          absurd cc

  pub found_call : (i : ℕ) → FoundAt i → (out : List ℕ) (call : After) → within s out (configured s id out call) ≡ call
  found_call i f out call = rw (f.fits, f.has)

  pub found_refused : (r : Refusal) → Err r ≡ found_of s id → (out : List ℕ) (call : After) → within s out (configured s id out call) ≡ refused_at r s out
  unfolding found_of
  found_refused r e out call = go (state_fits s) refl (is_configured s id) refl
    where
      go : (a : Bool) → state_fits s ≡ a → (b : Bool) → is_configured s id ≡ b → within s out (configured s id out call) ≡ refused_at r s out
      go true f true g =
          let at : Err r ≡ Ok (index_in s id) = rw (f, g) at e in
          cc
      go true f false g =
          let at : Err r ≡ Err (record { number = NO-CHANNEL; place = 0 }) = rw (f, g) at e in
          let same : r ≡ record { number = NO-CHANNEL; place = 0 } = cc in
          rw (f, g, same)
      go false f b g =
          let at : Err r ≡ Err (record { number = OUTSIDE-LIMITS; place = 0 }) = rw f at e in
          let same : r ≡ record { number = OUTSIDE-LIMITS; place = 0 } = cc in
          rw (f, same)

-- ---- a refusal leaves everything
pub left_refused : (after : After) (words : List ℕ) (number : ℕ) (s : State) (out : List ℕ) (answer : Result Answer Refusal) → after ≡ refused_by number s out → answer ≡ Err (record { number = number; place = 0 }) → Left after words answer words out
left_refused after words number s out answer e f = rw (e, f) (record { answer_is = refl; words_are = refl; output_is = refl })

pub left_refusal : (after : After) (words : List ℕ) (r : Refusal) (s : State) (out : List ℕ) → after ≡ refused_at r s out → Left after words (Err r) words out
left_refusal after words r s out e = rw e (record { answer_is = refl; words_are = refl; output_is = refl })

-- ---- one channel changed by the radio's own side
module _ (words : List ℕ) (id i : ℕ) (f : FoundAt (state_in words) id i) where
  pub found_placed : Placed words i
  found_placed = record { fits = f.fits; inside = rw f.index_is (has_inside (state_in words) id f.has) }

  pub found_settles : (c d : Channel) → c ≡ channel_at (state_in words) i → d.setting.id ≡ c.setting.id → d.status ≤ 15 → Settles words (state_in words) i d
  found_settles c d e is low = record { placed = found_placed; same_id = is ∙ ap (λ (x : Channel). x.setting.id) e; low = low }

  pub found_low : (c : Channel) → c ≡ channel_at (state_in words) i → c.status ≤ 15
  found_low c e = rw e (channel_fit _ ((fit_facts (state_in words) f.fits).each i found_placed.inside)).status

  -- the call is the change of that channel
  pub changing_is : (change : Channel → Channel) (c d : Channel) → c ≡ channel_at (state_in words) i → d ≡ change c → (out : List ℕ) → changing (state_in words) (index_in (state_in words) id) change out ≡ settling (state_in words) (with_channel (state_in words) i d) out
  changing_is change c d e is out = rw (← f.index_is, is, e)
