-- The calls of the radio's own side, each way out. Assumes nothing.
use Rattle.std.specs.Prelude.{Option, Result, Ok, Err, None}
use Rattle.quantity.specs.declared.count.LinkInstanceId.{LinkInstanceId}
use Rattle.meaning.specs.declared.message.ContextBytes.{ContextBytes}
use Prim.Native.Nat.{ℕ, ◌≤◌, ◌<◌}
use mathlib.Core.Bool.{true, false}
use mathlib.Core.List.{List, []}
use mathlib.Core.Path.{◌≡◌, refl, sym, ◌∙◌}
use borrow.Author.Tests.{le-leb, lt-leb}
use lib.ListN.{length, replicate}
use Rattle.quantity.specs.declared.count.ByteCount.{ByteCount}
use Rattle.quantity.specs.declared.refusal.Refusal.{Refusal}
use Rattle.quantity.specs.Limits.{HIGHEST-STATUS}
use Rattle.quantity.specs.Refusals.{OUTSIDE-LIMITS, NOT-WRITABLE}
use Rattle.meaning.specs.declared.message.End.TheVariants as ends
use Rattle.writable.specs.Allowed.{instance_allowed, context_allowed}
use Rattle.writer.specs.Written.{Outcome}
use Rattle.radio_end_state.specs.declared.answer.Answer.{Answer}
use Rattle.radio_end_state.specs.declared.channel.Channel.{Channel}
use Rattle.radio_end_state.specs.Channel.{with_queued, with_status}
use Rattle.radio_end_state.specs.State.{no_channel, channel_at, with_channel, with_context, with_instance}
use Rattle.radio_end_state.specs.Limits.{state_fits}
use Rattle.radio_end_state.specs.Message.{message_bytes}
use Rattle.radio_end_state.specs.Calls.{After, settling, status_told, queued_told, context_told, link_told, told}
use Rattle.radio_end_words.specs.Words.{state_in, state_words}
use Rattle.radio_end_words.proofs.Whole.{fit_words}
use Rattle.radio_end_message.specs.Changed.{changed}
use Rattle.radio_end_telling.specs.Left.{Left, found_of}
use Rattle.radio_end_telling.proofs.Changing.{changed_nothing}
use Rattle.radio_end_telling.proofs.Settling.{left_by_lem, left_refused, left_refusal, told_wrote, told_refused, FoundAt, found_call, found_refused, changing_is}

-- one call is another, so it leaves the same
pub left_as : (after other : After) (words : List ℕ) (answer : Result Answer Refusal) (words' out' : List ℕ) → after ≡ other → Left other words answer words' out' → Left after words answer words' out'
left_as after other words answer words' out' e l = rw e l

-- ---- a status
module _ (words : List ℕ) (id value : ℕ) (out : List ℕ) where
  pub status_unfound : (r : Refusal) → Err r ≡ found_of (state_in words) id → Left (status_told (state_in words) id value out) words (Err r) words out
  unfolding status_told
  status_unfound r e = left_refusal _ words r (state_in words) out (found_refused (state_in words) id r e out _)

  module _ (i : ℕ) (f : FoundAt (state_in words) id i) where
    pub status_high : HIGHEST-STATUS < value → (answer : Result Answer Refusal) → answer ≡ Err (record { number = NOT-WRITABLE; place = 0 }) → Left (status_told (state_in words) id value out) words answer words out
    unfolding status_told
    status_high h answer e =
        left_refused _ words NOT-WRITABLE (state_in words) out answer (found_call (state_in words) id i f out _ ∙ rw (lt-leb value HIGHEST-STATUS h)) e

    pub status_done : value ≤ HIGHEST-STATUS → (c d : Channel) → c ≡ channel_at (state_in words) i → d ≡ with_status c value → (answer : Result Answer Refusal) (words' out' : List ℕ)
        → Left (settling (state_in words) (with_channel (state_in words) i d) out) words answer words' out' → Left (status_told (state_in words) id value out) words answer words' out'
    unfolding status_told
    status_done h c d e is answer words' out' l =
        left_as _ _ words answer words' out' (found_call (state_in words) id i f out _ ∙ rw (le-leb value HIGHEST-STATUS h) (changing_is words id i f (λ x. with_status x value) c d e is out)) l

-- ---- bytes queued
module _ (words : List ℕ) (id : ℕ) (bytes : ByteCount) (out : List ℕ) where
  pub queued_unfound : (r : Refusal) → Err r ≡ found_of (state_in words) id → Left (queued_told (state_in words) id bytes out) words (Err r) words out
  unfolding queued_told
  queued_unfound r e = left_refusal _ words r (state_in words) out (found_refused (state_in words) id r e out _)

  pub queued_done : (i : ℕ) → FoundAt (state_in words) id i → (c d : Channel) → c ≡ channel_at (state_in words) i → d ≡ with_queued c bytes → (answer : Result Answer Refusal) (words' out' : List ℕ)
      → Left (settling (state_in words) (with_channel (state_in words) i d) out) words answer words' out' → Left (queued_told (state_in words) id bytes out) words answer words' out'
  unfolding queued_told
  queued_done i f c d e is answer words' out' l =
      left_as _ _ words answer words' out' (found_call (state_in words) id i f out _ ∙ changing_is words id i f (λ x. with_queued x bytes) c d e is out) l

-- ---- the Context
module _ (words : List ℕ) (k : Option (ContextBytes × ℕ)) (out : List ℕ) (answer : Result Answer Refusal) where
  pub context_unfit : state_fits (state_in words) ≡ false → answer ≡ Err (record { number = OUTSIDE-LIMITS; place = 0 }) → Left (context_told (state_in words) k out) words answer words out
  unfolding context_told
  context_unfit e f = left_refused _ words OUTSIDE-LIMITS (state_in words) out answer (rw e) f

  pub context_unwritable : state_fits (state_in words) ≡ true → context_allowed ends.Radio k ≡ false → answer ≡ Err (record { number = NOT-WRITABLE; place = 0 }) → Left (context_told (state_in words) k out) words answer words out
  unfolding context_told
  context_unwritable e a f = left_refused _ words NOT-WRITABLE (state_in words) out answer (rw (e, a)) f

  pub context_done : state_fits (state_in words) ≡ true → context_allowed ends.Radio k ≡ true → (words' out' : List ℕ)
      → Left (settling (state_in words) (with_context (state_in words) k) out) words answer words' out' → Left (context_told (state_in words) k out) words answer words' out'
  unfolding context_told
  context_done e a words' out' l = left_as _ _ words answer words' out' (rw (e, a)) l

-- ---- the Link Instance
module _ (words : List ℕ) (i : Option (LinkInstanceId × ℕ)) (answer : Result Answer Refusal) where
  pub link_unfit : state_fits (state_in words) ≡ false → answer ≡ Err (record { number = OUTSIDE-LIMITS; place = 0 }) → Left (link_told (state_in words) i []) words answer words []
  unfolding link_told
  link_unfit e f = left_refused _ words OUTSIDE-LIMITS (state_in words) [] answer (rw e) f

  pub link_unwritable : state_fits (state_in words) ≡ true → instance_allowed ends.Radio i ≡ false → answer ≡ Err (record { number = NOT-WRITABLE; place = 0 }) → Left (link_told (state_in words) i []) words answer words []
  unfolding link_told
  link_unwritable e a f = left_refused _ words NOT-WRITABLE (state_in words) [] answer (rw (e, a)) f

pub link_done : (words : List ℕ) (i : Option (LinkInstanceId × ℕ)) → state_fits (state_in words) ≡ true → instance_allowed ends.Radio i ≡ true → (words' : List ℕ) → words' ≡ state_words (with_instance (state_in words) i)
    → Left (link_told (state_in words) i []) words (Ok Answer.Quiet) words' []
unfolding link_told
link_done words i e a words' w = left_by_lem _ words (Ok Answer.Quiet) (with_instance (state_in words) i) words' [] (rw (e, a)) w

-- ---- the message as it stands
module _ (words : List ℕ) (out : List ℕ) where
  pub tell_unfit : state_fits (state_in words) ≡ false → (answer : Result Answer Refusal) → answer ≡ Err (record { number = OUTSIDE-LIMITS; place = 0 }) → Left (told (state_in words) out) words answer words out
  unfolding told
  tell_unfit e answer f = left_refused _ words OUTSIDE-LIMITS (state_in words) out answer (rw e) f

  module _ (fits : state_fits (state_in words) ≡ true) (m n : ℕ) (many : n ≡ length (state_in words).channels) (c : Channel) (none : c ≡ no_channel) (k : Option (ContextBytes × ℕ)) (kept : k ≡ (state_in words).context) (written : Result ByteCount Refusal) (out' : List ℕ) (o : Outcome true (message_bytes (changed (state_in words) k n c (replicate m None))) out written out') where
    as_it_stands : Outcome true (message_bytes (state_in words)) out written out'
    as_it_stands =
        let same : changed (state_in words) k n c (replicate m None) ≡ state_in words = rw (many, none, kept) (changed_nothing m (state_in words)) in
        rw same at o

    pub tell_wrote : (b : ByteCount) → written ≡ Ok b → Left (told (state_in words) out) words (Ok (Answer.Answered b)) words out'
    unfolding told
    tell_wrote b f =
        left_by_lem _ words (Ok (Answer.Answered b)) (state_in words) words out' (rw fits (told_wrote (λ n. Ok (Answer.Answered n)) (state_in words) (state_in words) out written out' as_it_stands b f)) (sym (fit_words words fits))

    pub tell_refused : (x : Refusal) → written ≡ Err x → Left (told (state_in words) out) words (Err x) words out'
    unfolding told
    tell_refused x f =
        left_by_lem _ words (Err x) (state_in words) words out' (rw fits (told_refused (λ n. Ok (Answer.Answered n)) (state_in words) (state_in words) out written out' as_it_stands x f)) refl
