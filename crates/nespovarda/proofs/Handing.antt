-- An exported handful: from the call's contract and back, and that one refused leaves all that is lent. Assumes nothing.
use Rattle.quantity.specs.declared.refusal.Refusal.{Refusal}
use Rattle.std.specs.Prelude.{Result, Ok, Err}
use Prim.Native.Nat.{ℕ, ◌+◌}
use mathlib.Core.List.{List}
use mathlib.Core.Path.{◌≡◌, refl, ap, ◌∙◌}
use native.Mathlib.Omega.{arith}
use Rattle.answer_codes.specs.declared.Answer.{Answer}
use Rattle.answer_codes.specs.Codes.{code_of, OFFERED}
use Rattle.endpoint.specs.Lent.{Lent}
use Rattle.handful.specs.Handful.{Handful, HandedIn}
use Rattle.handful_laws.proofs.Judging.{handful_keeps}
use Rattle.nespovarda.specs.Outcomes.{handed_as}
use Rattle.nespovarda.specs.Handing.{HandfulExported, handful_said}
use Rattle.nespovarda.specs.Numbers.{numbers}
use Rattle.nespovarda.proofs.Exporting.{no_kind, number_back}

-- ---- from the call to its export
pub handful_exports : {h : Handful} {l : Lent} {answers : List ℕ} {x : Result (Unit {0}) Refusal} {l' : Lent} {answers' : List ℕ} → HandedIn h l answers x l' answers'
    → (r : Answer) → r ≡ code_of (handed_as x) → HandfulExported h l answers r l' answers'
handful_exports h r e = record {
  answer_is = e ∙ ap (λ (x : Result (Unit {0}) Refusal). code_of (handed_as x)) h.answer_is;
  lent_is = h.lent_is;
  answers_are = h.answers_are;
}

-- ---- and back: its numbers say its answer
handful_back : (x : Result (Unit {0}) Refusal) → handful_said (code_of (handed_as x)) ≡ x
handful_back (Ok tt) = refl
handful_back (Err refusal) = rw (no_kind refusal OFFERED (omega arith), number_back refusal.number)

pub handful_exported : {h : Handful} {l : Lent} {answers : List ℕ} {r : Answer} {l' : Lent} {answers' : List ℕ} → HandfulExported h l answers r l' answers'
    → HandedIn h l answers (handful_said r) l' answers'
handful_exported h = record {
  answer_is = ap (λ (a : Answer). handful_said a) h.answer_is ∙ handful_back _;
  lent_is = h.lent_is;
  answers_are = h.answers_are;
}

-- ---- "with nothing taken", and every answer as it was
pub refused_handful_keeps : {h : Handful} {l : Lent} {answers : List ℕ} {l' : Lent} {answers' : List ℕ} (number place : ℕ)
    → HandfulExported h l answers (numbers (256 + number) place) l' answers' → (l' ≡ l) × (answers' ≡ answers)
refused_handful_keeps number place e =
    let h = handful_exported e in
    handful_keeps (rw (no_kind (record { number = number; place = place }) OFFERED (omega arith)) at h)
