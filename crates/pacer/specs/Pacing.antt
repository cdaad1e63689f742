-- Document 02, §1: "asked, it reports a query due when the configured HelloTime or more has passed since the last due one, and if no radio control message was accepted
-- for a configured silence limit or longer, every channel becomes not reported and every flow-controlled one has no window."
use Rattle.quantity.specs.declared.refusal.Refusal.{Refusal}
use Rattle.std.specs.Prelude.{ℕ, ◌+◌, Bool, true, false, cond, ◌&&◌, leb, ltb, Result, Ok}
use Rattle.pacer.specs.declared.Pacer.{Pacer}
use Rattle.pacer.specs.declared.PaceAnswer.{PaceAnswer}

-- "The pacer has one clock, and both waits first run from 0"
abbrev pub fresh_pacer : (hello limit : ℕ) → Pacer
fresh_pacer hello limit = record { hello = hello; limit = limit; clock = 0; due = 0; heard = 0 }

-- "22, HelloTime or silence limit of 0": given where this doesn't hold
abbrev pub pacer_fits : Pacer → Bool
pacer_fits p = ltb 0 p.hello && ltb 0 p.limit

-- "21, pacer time earlier than its latest"
abbrev pub is_earlier : (time : ℕ) → Pacer → Bool
is_earlier time p = ltb time p.clock

-- a wait "or more has passed since" a time, in numbers without a limit
abbrev pub passed : (since wait time : ℕ) → Bool
passed since wait time = leb (since + wait) time

-- "the configured HelloTime or more has passed since the last due one"
abbrev pub is_due : (time : ℕ) → Pacer → Bool
is_due time p = passed p.due p.hello time

-- "no radio control message was accepted for a configured silence limit or longer"
abbrev pub is_silent : (time : ℕ) → Pacer → Bool
is_silent time p = passed p.heard p.limit time

-- ---- what moves it
unfoldable pub asked : (time : ℕ) → Pacer → Pacer
asked time p = record { hello = p.hello; limit = p.limit; clock = time; due = cond (is_due time p) time p.due; heard = p.heard }

-- a radio message "once accepted .. moves that clock, a data message too, which changes nothing else"
unfoldable pub heard_at : (time : ℕ) → Pacer → Pacer
heard_at time p = record { hello = p.hello; limit = p.limit; clock = time; due = p.due; heard = time }

unfoldable pub moved_to : (time : ℕ) → Pacer → Pacer
moved_to time p = record { hello = p.hello; limit = p.limit; clock = time; due = p.due; heard = p.heard }

-- ---- one answer says both
abbrev pub answer_of : (due silent : Bool) → Result PaceAnswer Refusal
answer_of true true = Ok PaceAnswer.DueSilent
answer_of true false = Ok PaceAnswer.Due
answer_of false true = Ok PaceAnswer.Silent
answer_of false false = Ok PaceAnswer.Quiet
