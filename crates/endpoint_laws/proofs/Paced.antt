-- Each answer of the pacer, and 21 of a radio message, given exactly when: in literal numbers. Assumes nothing.
use Rattle.std.specs.Prelude.{Result, Err}
use Rattle.quantity.specs.declared.refusal.Refusal.{Refusal}
use Prim.Native.Nat.{ℕ, ◌≤◌, ◌<◌}
use mathlib.Core.Bool.{Bool, true, false}
use mathlib.Core.List.{List, []}
use mathlib.Core.Logic.{◌↔◌}
use mathlib.Core.Path.{◌≡◌, refl, sym, subst, ap, ◌∙◌}
use borrow.Author.Tests.{leb-true, leb-false, le-leb, lt-leb}
use Rattle.facts.proofs.Tests.{clash}
use Rattle.pacer.specs.declared.PaceAnswer.{PaceAnswer}
use Rattle.pacer.specs.Pacing.{is_due, is_silent, answer_of}
use Rattle.ips_state.specs.State.{State}
use Rattle.ips_state.specs.Limits.{state_fits}
use Rattle.ips_state.specs.WithinLimits.{WithinLimits}
use Rattle.ips_state.proofs.WithinLimits.{within_fits, fits_within}
use Rattle.ips_radio.specs.declared.RadioAnswer.{RadioAnswer}
use Rattle.ips_run.specs.Run.{radio, pace}
use Rattle.ips_calls.specs.Radio.{AfterRadio}
use Rattle.ips_calls.specs.Pace.{pace_answer}
use Rattle.ips_calls.specs.Replies.{of_radio, of_pace}
use Rattle.ips_calls.specs.Calls.{PerformedWithAny}
use Rattle.ips_calls.proofs.Exactly.{Paced, asked_outside, asked_earlier, asked_in_time, paced, pace_unfit, pace_earlier, pace_answered, radio_earlier, radio_twenty_one}
use Rattle.ips_calls.proofs.Ran.{radio_handed}
use Rattle.endpoint_laws.specs.Given.{PaceGiven, pace_19, pace_21, pace_quiet, pace_due, pace_silent, pace_due_silent}

-- a state outside the limits, by the facts
outside : (s : State) → (WithinLimits s → ⊥) → state_fits s ≡ false
outside s not = go (state_fits s) refl
  where
    go : (b : Bool) → state_fits s ≡ b → b ≡ false
    go true f = absurd (not (fits_within s f))
    go false f = refl

module _ (s : State) (time : ℕ) where
  answered : WithinLimits s → s.pacer.clock ≤ time → (due : Bool) → is_due time s.pacer ≡ due → (silent : Bool) → is_silent time s.pacer ≡ silent
      → PaceGiven s time (answer_of due silent)
  answered within in-time true d true e = pace_due_silent within in-time (leb-true _ _ d) (leb-true _ _ e)
  answered within in-time true d false e = pace_due within in-time (leb-true _ _ d) (leb-false _ _ e)
  answered within in-time false d true e = pace_silent within in-time (leb-false _ _ d) (leb-true _ _ e)
  answered within in-time false d false e = pace_quiet within in-time (leb-false _ _ d) (leb-false _ _ e)

  pace_when : {a : Result PaceAnswer Refusal} → Paced s time a → PaceGiven s time a
  pace_when (asked_outside f) = pace_19 (λ within. clash (sym f ∙ within_fits s within))
  pace_when (asked_earlier f l) = pace_21 (fits_within s f) l
  pace_when (asked_in_time f l) = answered (fits_within s f) l (is_due time s.pacer) refl (is_silent time s.pacer) refl

  told : (within : WithinLimits s) → s.pacer.clock ≤ time → {due silent : Bool} → is_due time s.pacer ≡ due → is_silent time s.pacer ≡ silent
      → pace_answer time s ≡ answer_of due silent
  told within in-time d e = pace_answered s time (within_fits s within) in-time ∙ rw (d, e)

  pace_then : {x : Result PaceAnswer Refusal} → PaceGiven s time x → pace_answer time s ≡ x
  pace_then (pace_19 not) = pace_unfit s time (outside s not)
  pace_then (pace_21 within l) = pace_earlier s time (within_fits s within) l
  pace_then (pace_quiet within l d e) = told within l (lt-leb _ _ d) (lt-leb _ _ e)
  pace_then (pace_due within l d e) = told within l (le-leb _ _ d) (lt-leb _ _ e)
  pace_then (pace_silent within l d e) = told within l (lt-leb _ _ d) (le-leb _ _ e)
  pace_then (pace_due_silent within l d e) = told within l (le-leb _ _ d) (le-leb _ _ e)

  -- what the pacer answers
  pub pace_exactly : {answer : Result PaceAnswer Refusal} {s' : State} → PerformedWithAny (pace time) s (of_pace answer) s' → (x : Result PaceAnswer Refusal) → (answer ≡ x) ↔ PaceGiven s time x
  pace_exactly {answer} h x =
      let is : answer ≡ pace_answer time s = cc (h []).reply_is in
      (λ e. subst (PaceGiven s time) (sym is ∙ e) (pace_when (paced s time)), λ g. is ∙ pace_then g)

  -- "21, pacer time earlier than its latest, tested right after 19", whatever the datagram is
  pub radio_earlier_exactly : (datagram : List ℕ) {answer : Result RadioAnswer Refusal} {s' : State} → PerformedWithAny (radio time datagram) s (of_radio answer) s'
      → (answer ≡ Err (record { number = 21; place = 0 })) ↔ (WithinLimits s × (time < s.pacer.clock))
  radio_earlier_exactly datagram {answer} h =
      let is = (radio_handed h).0 in (
        λ e. let f = (radio_twenty_one s time datagram).0 (_, sym is ∙ e, refl) in (fits_within s f.0, f.1),
        λ g. is ∙ ap (λ (r : AfterRadio). r.answer) (radio_earlier s time datagram (within_fits s g.0) g.1),
      )
