-- One law for every call: tests in an order, and the answer of each exactly if its facts hold. Assumes nothing.
use Rattle.std.specs.Prelude.{Result, Ok, Err}
use Prim.Native.Nat.{ℕ}
use mathlib.Core.Bool.{Bool, true, false, cond, ◌||◌}
use mathlib.Core.List.{List}
use mathlib.Core.Logic.{◌↔◌, ◌⊎◌, inl, inr}
use mathlib.Core.Path.{◌≡◌, refl, sym, ap, subst}
use borrow.Author.Tests.{ltb-true, lt-ltb}
use lib.Dec.{ltb}
use lib.ListN.{length}
use Rattle.facts.proofs.Tests.{clash}
use Rattle.quantity.specs.declared.count.ByteCount.{ByteCount}
use Rattle.quantity.specs.declared.refusal.Refusal.{Refusal}
use Rattle.quantity.specs.Limits.{LONGEST-DATAGRAM}
use Rattle.quantity.specs.Refusals.{NO-CHANNEL, NO-ROOM, OUTSIDE-LIMITS, NOT-WRITABLE}
use Rattle.wire.specs.Options.{over}
use Rattle.writer.specs.Written.{no_room_of}
use Rattle.radio_end_state.specs.declared.answer.Answer.{Answer}
use Rattle.radio_end_state.specs.State.{State}
use Rattle.radio_end_state.specs.Message.{message_bytes}
use Rattle.radio_end_state.specs.Calls.{After, refused_by, quietly}
use Rattle.radio_end_state.specs.Each.{Keeps}
use Rattle.radio_end_laws.specs.Given.{NoRoom, Given, given_19, given_12, given_20, given_18, given_message, given_quiet, Exactly}

-- a test fails if what it tells doesn't hold
pub off : (b : Bool) {T : Type 0} → (b ≡ true) ↔ T → (T → ⊥) → b ≡ false
off true i never = absurd (never (i.0 refl))
off false i never = refl

-- number 18's test
pub no_room_exactly : (message out : List ℕ) → (no_room_of (length message) (length out) ≡ true) ↔ NoRoom message out
no_room_exactly message out = (go (ltb (length out) (length message)) refl, back)
  where
    go : (b : Bool) → ltb (length out) (length message) ≡ b → (b || ltb LONGEST-DATAGRAM (length message)) ≡ true → NoRoom message out
    go true e f = inl (ltb-true _ _ e)
    go false e f = inr (ltb-true _ _ f)

    either : (b : Bool) → (b || true) ≡ true
    either true = refl
    either false = refl

    back : NoRoom message out → (ltb (length out) (length message) || ltb LONGEST-DATAGRAM (length message)) ≡ true
    back (inl h) = rw (lt-ltb (length out) (length message) h)
    back (inr h) = rw (lt-ltb LONGEST-DATAGRAM (length message) h) (either (ltb (length out) (length message)))

-- an answer that is a message of so many bytes
pub record Speaks (say : ByteCount → Result Answer Refusal) : Type 0 where
  pub not_quiet : (n : ByteCount) → say n ≡ Ok Answer.Quiet → ⊥
  pub not_refused : (n : ByteCount) (refusal : Refusal) → say n ≡ Err refusal → ⊥
  pub one : (n m : ByteCount) → (say n ≡ Ok (Answer.Answered m)) ⊎ (say n ≡ Ok (Answer.Unasked m)) → n ≡ m

answered_one : (n m : ByteCount) → (◌≡◌ {A = Result Answer Refusal} (Ok (Answer.Answered n)) (Ok (Answer.Answered m))) ⊎ (◌≡◌ {A = Result Answer Refusal} (Ok (Answer.Answered n)) (Ok (Answer.Unasked m))) → n ≡ m
answered_one n m (inl e) = cc
answered_one n m (inr e) = clash (cc)

unasked_one : (n m : ByteCount) → (◌≡◌ {A = Result Answer Refusal} (Ok (Answer.Unasked n)) (Ok (Answer.Answered m))) ⊎ (◌≡◌ {A = Result Answer Refusal} (Ok (Answer.Unasked n)) (Ok (Answer.Unasked m))) → n ≡ m
unasked_one n m (inl e) = clash (cc)
unasked_one n m (inr e) = cc

pub answered_speaks : Speaks (λ n. Ok (Answer.Answered n))
answered_speaks = record { not_quiet = λ n e. clash (cc); not_refused = λ n refusal e. clash (cc); one = answered_one }

pub unasked_speaks : Speaks (λ n. Ok (Answer.Unasked n))
unasked_speaks = record { not_quiet = λ n e. clash (cc); not_refused = λ n refusal e. clash (cc); one = unasked_one }

-- a refusal, or nothing to write, is no message
pub refused_silent : {refusal : Refusal} {n : ByteCount} → (◌≡◌ {A = Result Answer Refusal} (Err refusal) (Ok (Answer.Answered n))) ⊎ (◌≡◌ {A = Result Answer Refusal} (Err refusal) (Ok (Answer.Unasked n))) → ⊥
refused_silent (inl e) = clash (cc)
refused_silent (inr e) = clash (cc)

quiet_silent : {n : ByteCount} → (◌≡◌ {A = Result Answer Refusal} (Ok Answer.Quiet) (Ok (Answer.Answered n))) ⊎ (◌≡◌ {A = Result Answer Refusal} (Ok Answer.Quiet) (Ok (Answer.Unasked n))) → ⊥
quiet_silent (inl e) = clash (cc)
quiet_silent (inr e) = clash (cc)

module _ (say : ByteCount → Result Answer Refusal) (before after : State) (out : List ℕ) where
  -- the tests in their order
  abbrev pub ordered : (fits named writable told short : Bool) → After
  ordered fits named writable told short =
      cond fits
      (cond named
      (cond writable
      (cond told
      (cond short (refused_by NO-ROOM before out) (record { answer = say (record { 0 = length (message_bytes after) }); state = after; output = over (message_bytes after) out }))
      (quietly after out))
      (refused_by NOT-WRITABLE before out))
      (refused_by NO-CHANNEL before out))
      (refused_by OUTSIDE-LIMITS before out)

  -- what holds of the state before, and of that after where all tests passed
  pub ordered_state : (P : State → Type 0) (f n w t l : Bool) → P before → (f ≡ true → n ≡ true → w ≡ true → P after) → P (ordered f n w t l).state
  ordered_state P false n w t l p q = p
  ordered_state P true false w t l p q = p
  ordered_state P true true false t l p q = p
  ordered_state P true true true false l p q = q refl refl refl
  ordered_state P true true true true true p q = p
  ordered_state P true true true true false p q = q refl refl refl

  module _ (speaks : Speaks say) where
    message_left : (f n w t l : Bool) (m : ByteCount) → (ordered f n w t l).answer ≡ say m
        → ((ordered f n w t l).state ≡ after) × ((ordered f n w t l).output ≡ over (message_bytes after) out)
    message_left false n w t l m e = absurd (speaks.not_refused m _ (sym e))
    message_left true false w t l m e = absurd (speaks.not_refused m _ (sym e))
    message_left true true false t l m e = absurd (speaks.not_refused m _ (sym e))
    message_left true true true false l m e = absurd (speaks.not_quiet m (sym e))
    message_left true true true true true m e = absurd (speaks.not_refused m _ (sym e))
    message_left true true true true false m e = (refl, refl)

    quiet_left : (f n w t l : Bool) → (ordered f n w t l).answer ≡ Ok Answer.Quiet → ((ordered f n w t l).state ≡ after) × ((ordered f n w t l).output ≡ out)
    quiet_left false n w t l e = clash (cc)
    quiet_left true false w t l e = clash (cc)
    quiet_left true true false t l e = clash (cc)
    quiet_left true true true false l e = (refl, refl)
    quiet_left true true true true true e = clash (cc)
    quiet_left true true true true false e = absurd (speaks.not_quiet _ e)

    refused_left : (f n w t l : Bool) → Keeps before out (ordered f n w t l)
    refused_left false n w t l refusal e = (refl, refl)
    refused_left true false w t l refusal e = (refl, refl)
    refused_left true true false t l refusal e = (refl, refl)
    refused_left true true true false l refusal e = clash (cc)
    refused_left true true true true true refusal e = (refl, refl)
    refused_left true true true true false refusal e = absurd (speaks.not_refused _ refusal e)

    -- a message that is written is that of the state that is left
    pub ordered_message : (f n w t l : Bool) (m : ByteCount) → ((ordered f n w t l).answer ≡ Ok (Answer.Answered m)) ⊎ ((ordered f n w t l).answer ≡ Ok (Answer.Unasked m))
        → (m.0 ≡ length (message_bytes (ordered f n w t l).state)) × ((ordered f n w t l).output ≡ over (message_bytes (ordered f n w t l).state) out)
    ordered_message false n w t l m e = absurd (refused_silent e)
    ordered_message true false w t l m e = absurd (refused_silent e)
    ordered_message true true false t l m e = absurd (refused_silent e)
    ordered_message true true true false l m e = absurd (quiet_silent e)
    ordered_message true true true true true m e = absurd (refused_silent e)
    ordered_message true true true true false m e = (sym (ap (λ (k : ByteCount). k.0) (speaks.one _ m e)), refl)

  module _ {Fits Named Writable Told : Type 0} where
    given_so : (f n w t l : Bool) → (f ≡ true) ↔ Fits → (n ≡ true) ↔ Named → (w ≡ true) ↔ Writable → (t ≡ true) ↔ Told → (l ≡ true) ↔ NoRoom (message_bytes after) out
        → Given Fits Named Writable Told say (message_bytes after) out (ordered f n w t l).answer
    given_so false n w t l F N W T L = given_19 (λ x. clash (F.1 x))
    given_so true false w t l F N W T L = given_12 (F.0 refl) (λ x. clash (N.1 x))
    given_so true true false t l F N W T L = given_20 (F.0 refl) (N.0 refl) (λ x. clash (W.1 x))
    given_so true true true false l F N W T L = given_quiet (F.0 refl) (N.0 refl) (W.0 refl) (λ x. clash (T.1 x))
    given_so true true true true true F N W T L = given_18 (F.0 refl) (N.0 refl) (W.0 refl) (T.0 refl) (L.0 refl)
    given_so true true true true false F N W T L = given_message (F.0 refl) (N.0 refl) (W.0 refl) (T.0 refl) (λ x. clash (L.1 x))

    so_given : (f n w t l : Bool) → (f ≡ true) ↔ Fits → (n ≡ true) ↔ Named → (w ≡ true) ↔ Writable → (t ≡ true) ↔ Told → (l ≡ true) ↔ NoRoom (message_bytes after) out
        → (a : Result Answer Refusal) → Given Fits Named Writable Told say (message_bytes after) out a → (ordered f n w t l).answer ≡ a
    so_given f n w t l F N W T L a (given_19 x) = rw (off f F x)
    so_given f n w t l F N W T L a (given_12 x y) = rw (F.1 x, off n N y)
    so_given f n w t l F N W T L a (given_20 x y z) = rw (F.1 x, N.1 y, off w W z)
    so_given f n w t l F N W T L a (given_18 x y z u v) = rw (F.1 x, N.1 y, W.1 z, T.1 u, L.1 v)
    so_given f n w t l F N W T L a (given_message x y z u v) = rw (F.1 x, N.1 y, W.1 z, T.1 u, off l L v)
    so_given f n w t l F N W T L a (given_quiet x y z u) = rw (F.1 x, N.1 y, W.1 z, off t T u)

    -- THE LAW: a call that tests in this order
    pub exactly : Speaks say → (f n w t : Bool) → (f ≡ true) ↔ Fits → (n ≡ true) ↔ Named → (w ≡ true) ↔ Writable → (t ≡ true) ↔ Told
        → {r : After} → r ≡ ordered f n w t (no_room_of (length (message_bytes after)) (length out)) → Exactly Fits Named Writable Told say before after out r
    exactly speaks f n w t F N W T e =
        let l = no_room_of (length (message_bytes after)) (length out) in
        let L = no_room_exactly (message_bytes after) out in
        subst (Exactly Fits Named Writable Told say before after out) (sym e)
        (record {
          given = λ a. (λ p. subst (Given Fits Named Writable Told say (message_bytes after) out) p (given_so f n w t l F N W T L), so_given f n w t l F N W T L a);
          refused_leaves = refused_left speaks f n w t l;
          message_leaves = message_left speaks f n w t l;
          quiet_leaves = quiet_left speaks f n w t l;
        })
