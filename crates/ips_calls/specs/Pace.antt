-- Document 02, §1: the pacer, "asked, .. reports a query due when the configured HelloTime or more has passed since the last due one", and a silence. Refusals 19, then 21.
use Rattle.quantity.specs.declared.refusal.Refusal.{Refusal}
use Rattle.std.specs.Prelude.{ℕ, Bool, true, false, cond, Result, Ok, Err}
use Rattle.quantity.specs.Limits.{Limits, CURRENT-LIMITS}
use Rattle.quantity.specs.Refusals.{OUTSIDE-LIMITS, EARLIER-PACE}
use Rattle.ips_radio.specs.declared.RadioAnswer.{RadioAnswer}
use Rattle.pacer.specs.declared.PaceAnswer.{PaceAnswer}
use Rattle.pacer.specs.Pacing.{is_earlier, is_due, is_silent, answer_of}
use Rattle.ips_state.specs.State.{State}
use Rattle.ips_state.specs.Limits.{state_fits_under}

abbrev pub refused_pace : ℕ → Result PaceAnswer Refusal
refused_pace number = Err (record { number = number; place = 0 })

-- "One answer says both"
unfoldable pub pace_answer_under : Limits → (time : ℕ) → State → Result PaceAnswer Refusal
pace_answer_under limits time s =
    cond (state_fits_under limits s)
    (cond (is_earlier time s.pacer) (refused_pace EARLIER-PACE) (answer_of (is_due time s.pacer) (is_silent time s.pacer)))
    (refused_pace OUTSIDE-LIMITS)

abbrev pub pace_answer : (time : ℕ) → State → Result PaceAnswer Refusal
pace_answer time s = pace_answer_under CURRENT-LIMITS time s

-- ---- what an answer says
abbrev pub says_due : Result PaceAnswer Refusal → Bool
says_due (Ok PaceAnswer.Quiet) = false
says_due (Ok PaceAnswer.Due) = true
says_due (Ok PaceAnswer.Silent) = false
says_due (Ok PaceAnswer.DueSilent) = true
says_due (Err refusal) = false

abbrev pub says_silent : Result PaceAnswer Refusal → Bool
says_silent (Ok PaceAnswer.Quiet) = false
says_silent (Ok PaceAnswer.Due) = false
says_silent (Ok PaceAnswer.Silent) = true
says_silent (Ok PaceAnswer.DueSilent) = true
says_silent (Err refusal) = false

abbrev pub says_refused : Result PaceAnswer Refusal → Bool
says_refused (Ok PaceAnswer.Quiet) = false
says_refused (Ok PaceAnswer.Due) = false
says_refused (Ok PaceAnswer.Silent) = false
says_refused (Ok PaceAnswer.DueSilent) = false
says_refused (Err refusal) = true

abbrev pub radio_refused : Result RadioAnswer Refusal → Bool
radio_refused (Ok RadioAnswer.Accepted) = false
radio_refused (Ok RadioAnswer.Due) = false
radio_refused (Err refusal) = true
