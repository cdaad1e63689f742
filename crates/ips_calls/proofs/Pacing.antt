-- The pacer by history, over any calls from a fresh start: a query is due exactly when HelloTime or more has passed since the last ask that was answered due, and it is
-- silent exactly when the limit or more has passed since the last accepted radio control message; both waits first run from 0. Assumes nothing.
use Rattle.std.specs.Prelude.{Result, Ok, Err}
use Rattle.quantity.specs.declared.refusal.Refusal.{Refusal}
use Prim.Native.Nat.{ℕ, ◌+◌, ◌≤◌}
use mathlib.Core.Bool.{Bool, true, false, cond}
use mathlib.Core.List.{List, [], ◌∷◌, map}
use mathlib.Core.Logic.{◌↔◌}
use mathlib.Core.Path.{◌≡◌, refl, sym, ◌∙◌}
use native.Mathlib.Omega.{arith}
use borrow.Author.Tests.{le-leb, leb-true, le-ltb, ltb-false, lt-ltb}
use Rattle.facts.proofs.Tests.{clash}
use Rattle.pacer.specs.declared.PaceAnswer.{PaceAnswer}
use Rattle.pacer.specs.Pacing.{is_earlier, is_due, is_silent, answer_of}
use Rattle.ips_state.specs.State.{Configuration, State}
use Rattle.ips_state.specs.Limits.{state_fits, configuration_taken}
use Rattle.ips_state.specs.Memory.{World}
use Rattle.ips_radio.specs.declared.RadioAnswer.{RadioAnswer}
use Rattle.ips_radio.specs.Heard.{due_of}
use Rattle.ips_run.specs.Run.{Call, radio, pace, Received, dropped, carried, stated, received_in, messages_in, accepted_in, in_time, accepted_under, accepted_by, silent_under, silent_by, fresh_world}
use Rattle.ips_run.specs.Demand.{BytesIn, reached}
use Rattle.ips_run.specs.Kept.{last_or}
use Rattle.ips_run.specs.Times.{when_taken, taken_times, due_times, when_stated, heard_times, times_all}
use Rattle.ips_run.proofs.Whole.{reached_fits}
use Rattle.ips_run.proofs.Times.{whole_clock, whole_due, whole_heard, whole_waits}
use Rattle.ips_calls.specs.Radio.{AfterRadio, handed_in}
use Rattle.ips_calls.specs.Pace.{pace_answer_under, pace_answer, says_due, says_silent, says_refused, radio_refused}
use Rattle.ips_calls.proofs.Exactly.{unheard, Handed, outside, earlier, unread, heard, passed, handed}

-- ---- the four answers
due_of_lem : (due silent : Bool) → says_due (answer_of due silent) ≡ due
due_of_lem true true = refl
due_of_lem true false = refl
due_of_lem false true = refl
due_of_lem false false = refl

silent_of : (due silent : Bool) → says_silent (answer_of due silent) ≡ silent
silent_of true true = refl
silent_of true false = refl
silent_of false true = refl
silent_of false false = refl

refused_of_lem : (due silent : Bool) → says_refused (answer_of due silent) ≡ false
refused_of_lem true true = refl
refused_of_lem true false = refl
refused_of_lem false true = refl
refused_of_lem false false = refl

-- ---- the times of `whole_clock` and `whole_due` are those of the answers, and a silence is what is answered silent
module _ (w : World) (time : ℕ) where
  pub silent_answered : silent_by (pace time) w ≡ says_silent (pace_answer time w.state)
  unfolding pace_answer_under silent_under
  silent_answered = go (state_fits w.state) refl (is_earlier time w.state.pacer) refl
    where
      go : (fits : Bool) → state_fits w.state ≡ fits → (early : Bool) → is_earlier time w.state.pacer ≡ early → silent_by (pace time) w ≡ says_silent (pace_answer time w.state)
      go false f early l = rw f
      go true f true l = rw (f, l)
      go true f false l = rw (f, l) (sym (silent_of (is_due time w.state.pacer) (is_silent time w.state.pacer)))

  pub due_answered : due_times (pace time) w ≡ cond (says_due (pace_answer time w.state)) (time ∷ []) []
  unfolding pace_answer_under due_times
  due_answered = go (state_fits w.state) refl (is_earlier time w.state.pacer) refl
    where
      go : (fits : Bool) → state_fits w.state ≡ fits → (early : Bool) → is_earlier time w.state.pacer ≡ early
          → due_times (pace time) w ≡ cond (says_due (pace_answer time w.state)) (time ∷ []) []
      go false f early l = rw f
      go true f true l = rw (f, l)
      go true f false l = rw (f, l, due_of_lem (is_due time w.state.pacer) (is_silent time w.state.pacer))

  pub taken_answered : taken_times (pace time) w ≡ cond (says_refused (pace_answer time w.state)) [] (time ∷ [])
  unfolding pace_answer_under taken_times
  taken_answered = go (state_fits w.state) refl (is_earlier time w.state.pacer) refl
    where
      go : (fits : Bool) → state_fits w.state ≡ fits → (early : Bool) → is_earlier time w.state.pacer ≡ early
          → taken_times (pace time) w ≡ cond (says_refused (pace_answer time w.state)) [] (time ∷ [])
      go false f early l = rw f
      go true f true l = rw (f, l)
      go true f false l = rw (f, l, refused_of_lem (is_due time w.state.pacer) (is_silent time w.state.pacer))

-- ---- and so for a radio message: accepted or not by its answer, a control message by what is accepted
module _ (w : World) (time : ℕ) (datagram : List ℕ) where
  pub radio_taken : taken_times (radio time datagram) w ≡ cond (radio_refused (handed_in time w.state datagram).answer) [] (time ∷ [])
  unfolding taken_times
  radio_taken = go (handed w.state time datagram)
    where
      by_due : (due : Bool) → time ∷ [] ≡ cond (radio_refused (cond due (Ok RadioAnswer.Due) (Ok RadioAnswer.Accepted))) [] (time ∷ [])
      by_due true = refl
      by_due false = refl

      go : {h : AfterRadio} → Handed w.state time datagram h
          → cond (in_time time w.state) (when_taken time (received_in w.state.datalink.id datagram)) [] ≡ cond (radio_refused h.answer) [] (time ∷ [])
      go (outside f) = rw f
      go (earlier f l) = rw (f, lt-ltb time w.state.pacer.clock l)
      go (unread refusal f why) = rw (f, unheard w.state.datalink.id datagram refusal why)
      go (heard m f a) = rw (f, a) (by_due (due_of w.state.context m.context))
      go (passed f a) = rw (f, a)

  pub radio_stated : heard_times (radio time datagram) w ≡ map (λ m. time) (accepted_by (radio time datagram) w)
  unfolding heard_times accepted_under accepted_in
  radio_stated = go (in_time time w.state) (received_in w.state.datalink.id datagram)
    where
      go : (t : Bool) (r : Received) → cond t (when_stated time r) [] ≡ map (λ m. time) (cond t (messages_in r) [])
      go false r = refl
      go true dropped = refl
      go true carried = refl
      go true (stated m) = refl

-- ---- by history
module _ (k : Configuration) (fits : configuration_taken k ≡ true) (cs : List Call) (bytes : BytesIn cs) (time : ℕ) where
  abbrev s : State
  s = (reached k cs).state

  abbrev answer : Result PaceAnswer Refusal
  answer = pace_answer time (reached k cs).state

  -- the answer, where the time is not earlier than the clock; a refusal says neither
  on_time : (says : Result PaceAnswer Refusal → Bool) → says (Err (record { number = 21; place = 0 })) ≡ false → (is : Bool)
      → says (answer_of (is_due time s.pacer) (is_silent time s.pacer)) ≡ is → (says answer ≡ true) ↔ ((s.pacer.clock ≤ time) × (is ≡ true))
  unfolding pace_answer_under
  on_time says refused is law = go (is_earlier time s.pacer) refl
    where
      fit : state_fits s ≡ true
      fit = (reached_fits k fits cs bytes).order.state_fits_lem

      go : (early : Bool) → is_earlier time s.pacer ≡ early → (says answer ≡ true) ↔ ((s.pacer.clock ≤ time) × (is ≡ true))
      go true l = (λ e. clash (sym refused ∙ (rw (fit, l) at e)), λ h. clash (sym (le-ltb time s.pacer.clock h.0) ∙ l))
      go false l = (λ e. (ltb-false time s.pacer.clock l, sym law ∙ (rw (fit, l) at e)), λ h. rw (fit, l) (law ∙ h.1))

  -- "when the configured HelloTime or more has passed since the last due one"
  pub pace_due : (says_due (pace_answer time (reached k cs).state) ≡ true)
      ↔ ((last_or 0 (times_all taken_times cs (fresh_world k)) ≤ time) × (last_or 0 (times_all due_times cs (fresh_world k)) + k.hello ≤ time))
  pace_due =
      let h = on_time says_due refl (is_due time s.pacer) (due_of_lem (is_due time s.pacer) (is_silent time s.pacer)) in
      let clock = whole_clock k cs in
      let last = whole_due k cs in
      let wait = (whole_waits k cs).0 in (
        λ e.
            let r = h.0 e in
            let over = leb-true (s.pacer.due + s.pacer.hello) time r.1 in
            (omega (arith, r.0), omega arith),
        λ r. h.1 (omega (arith, r.0), le-leb (s.pacer.due + s.pacer.hello) time (omega (arith, r.1))),
      )

  -- "if no radio control message was accepted for a configured silence limit or longer"
  pub pace_silent : (says_silent (pace_answer time (reached k cs).state) ≡ true)
      ↔ ((last_or 0 (times_all taken_times cs (fresh_world k)) ≤ time) × (last_or 0 (times_all heard_times cs (fresh_world k)) + k.limit ≤ time))
  pace_silent =
      let h = on_time says_silent refl (is_silent time s.pacer) (silent_of (is_due time s.pacer) (is_silent time s.pacer)) in
      let clock = whole_clock k cs in
      let last = whole_heard k cs in
      let wait = (whole_waits k cs).1 in (
        λ e.
            let r = h.0 e in
            let over = leb-true (s.pacer.heard + s.pacer.limit) time r.1 in
            (omega (arith, r.0), omega arith),
        λ r. h.1 (omega (arith, r.0), le-leb (s.pacer.heard + s.pacer.limit) time (omega (arith, r.1))),
      )
