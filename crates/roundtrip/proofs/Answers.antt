-- A writer's outcome is exact: each answer is given where it is due, and nowhere else. Assumes nothing.
use Rattle.std.specs.Prelude.{Result, Ok, Err}
use Prim.Native.Nat.{ℕ}
use mathlib.Core.Path.{◌≡◌, refl, sym, ap, ◌∙◌}
use mathlib.Core.List.{List}
use mathlib.Core.Bool.{Bool, true, false, true≢false, false≢true}
use native.Mathlib.Omega.{arith}
use borrow.Author.Tests.{ltb-true, ltb-false}
use lib.ListN.{length}
use lib.Dec.{ltb}
use Rattle.facts.proofs.Tests.{clash}
use Rattle.quantity.specs.declared.count.ByteCount.{ByteCount}
use Rattle.quantity.specs.declared.refusal.Refusal.{Refusal}
use Rattle.quantity.specs.Limits.{LONGEST-DATAGRAM}
use Rattle.quantity.specs.Refusals.{NO-ROOM, NOT-WRITABLE}
use Rattle.wire.specs.Options.{over}
use Rattle.writer.specs.Written.{Outcome}
use Rattle.roundtrip.specs.Answers.{Room, refused_by, Exact}

-- any two outcomes of a writer coincide
pub outcome_one : {allowed : Bool} {message out : List ℕ} {answer answer' : Result ByteCount Refusal} {out' out'' : List ℕ} → Outcome allowed message out answer out' → Outcome allowed message out answer' out''
    → (answer ≡ answer') × (out' ≡ out'')
outcome_one o p = (o.answers ∙ sym p.answers, o.bytes_are ∙ sym p.bytes_are)

-- no answer is two
apart : {count : ByteCount} {refusal : Refusal} → Ok count ≡ Err refusal → ⊥
apart e = clash (cc)

two_numbers_lem : refused_by NO-ROOM ≡ refused_by NOT-WRITABLE → ⊥
two_numbers_lem e =
    let same : ◌≡◌ {A = Refusal} (record { number = NO-ROOM; place = 0 }) (record { number = NOT-WRITABLE; place = 0 }) = cc in
    omega (arith, ap (λ (r : Refusal). r.number) same)

-- the three ways out
module _ (message out : List ℕ) (answer : Result ByteCount Refusal) (out' : List ℕ) where
  wrote : Room message out → answer ≡ Ok (record { 0 = length message }) → out' ≡ over message out → Exact true message out answer out'
  wrote r a b = record {
    written = λ p q. (a, b);
    sent = λ count e. record { is_allowed = refl; room = r; count_is = cc; bytes_are = b };
    disallowed = (λ e. absurd (apart (sym a ∙ e)), λ p. absurd (true≢false p));
    no_room = (λ e. absurd (apart (sym a ∙ e)), λ p. absurd (p.1 r));
    stays = λ refusal e. absurd (apart (sym a ∙ e));
  }

  narrow : (Room message out → ⊥) → answer ≡ refused_by NO-ROOM → out' ≡ out → Exact true message out answer out'
  narrow n a b = record {
    written = λ p q. absurd (n q);
    sent = λ count e. absurd (apart (sym e ∙ a));
    disallowed = (λ e. absurd (two_numbers_lem (sym a ∙ e)), λ p. absurd (true≢false p));
    no_room = (λ e. (refl, n), λ p. a);
    stays = λ refusal e. b;
  }

  meaningless : answer ≡ refused_by NOT-WRITABLE → out' ≡ out → Exact false message out answer out'
  meaningless a b = record {
    written = λ p q. absurd (false≢true p);
    sent = λ count e. absurd (apart (sym e ∙ a));
    disallowed = (λ e. refl, λ p. a);
    no_room = (λ e. absurd (two_numbers_lem (sym e ∙ a)), λ p. absurd (false≢true p.0));
    stays = λ refusal e. b;
  }

  by_room : Outcome true message out answer out' → (a : Bool) → ltb (length out) (length message) ≡ a → (b : Bool) → ltb LONGEST-DATAGRAM (length message) ≡ b
      → Exact true message out answer out'
  by_room o true e b f = narrow (λ r. omega (arith, ltb-true (length out) (length message) e, r.in_output)) (o.answers ∙ rw e) (o.bytes_are ∙ rw e)
  by_room o false e true f =
      narrow (λ r. omega (arith, ltb-true LONGEST-DATAGRAM (length message) f, r.in_datagram)) (o.answers ∙ rw (e, f)) (o.bytes_are ∙ rw (e, f))
  by_room o false e false f =
      wrote (record { in_output = ltb-false (length out) (length message) e; in_datagram = ltb-false LONGEST-DATAGRAM (length message) f })
      (o.answers ∙ rw (e, f)) (o.bytes_are ∙ rw (e, f))

  pub exact : (allowed : Bool) → Outcome allowed message out answer out' → Exact allowed message out answer out'
  exact false o = meaningless o.answers o.bytes_are
  exact true o = by_room o (ltb (length out) (length message)) refl (ltb LONGEST-DATAGRAM (length message)) refl
