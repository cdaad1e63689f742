-- The outcome of a call, and the two numbers that stand for it: the constants of src/lib.rt under their names, with `-` for `_`.
use Rattle.quantity.specs.declared.count.ByteCount.{ByteCount}
use Rattle.std.specs.Prelude.{ℕ, ◌+◌, Result, Ok, Err}
use Rattle.quantity.specs.declared.refusal.Refusal.{Refusal}
use Rattle.answer_codes.specs.declared.Answer.{Answer}

-- what a call answers. Document 01, of a refusal: "Each gives its number and a place, changes no state and no lent byte." `other_plane`, `shown`, `kept`,
-- `none_there` and `pacer_shown` are the library's own: a reader asked for the plane that a message isn't of, what stands in the words, and a position at which no
-- packet waits.
pub data Outcome : Type 0 where
  refused : (number place : ℕ) → Outcome
  started : Outcome
  taken : Outcome
  sent : (bytes : ℕ) → Outcome
  nothing_waiting : Outcome
  not_operational : Outcome
  window_shut : Outcome
  withdrawn : Outcome
  accepted : Outcome
  -- accepted, and a mobility message is due
  due : Outcome
  other_plane : Outcome
  wrote : (bytes : ℕ) → Outcome
  shown : Outcome
  kept : Outcome
  none_there : Outcome
  -- the pacer asked: is a query due, and is the radio silent
  quiet : Outcome
  query_due : Outcome
  silent : Outcome
  query_due_silent : Outcome
  pacer_shown : Outcome
  -- the radio's end: a message was written as the answer to what was asked, or unasked; there is nothing to send
  answered : (bytes : ℕ) → Outcome
  unasked : (bytes : ℕ) → Outcome
  no_message : Outcome
  -- a handful: each of its packets was offered, and has an answer of its own
  offered : Outcome

abbrev pub STARTED : ℕ
STARTED = 1

abbrev pub TAKEN : ℕ
TAKEN = 2

abbrev pub SENT : ℕ
SENT = 3

abbrev pub NOTHING-WAITING : ℕ
NOTHING-WAITING = 4

abbrev pub NOT-OPERATIONAL : ℕ
NOT-OPERATIONAL = 5

abbrev pub WINDOW-SHUT : ℕ
WINDOW-SHUT = 6

abbrev pub WITHDRAWN : ℕ
WITHDRAWN = 7

abbrev pub ACCEPTED : ℕ
ACCEPTED = 8

abbrev pub DUE : ℕ
DUE = 9

abbrev pub OTHER-PLANE : ℕ
OTHER-PLANE = 10

abbrev pub WROTE : ℕ
WROTE = 11

abbrev pub SHOWN : ℕ
SHOWN = 12

abbrev pub KEPT : ℕ
KEPT = 13

abbrev pub NONE-THERE : ℕ
NONE-THERE = 14

abbrev pub QUIET : ℕ
QUIET = 15

abbrev pub QUERY-DUE : ℕ
QUERY-DUE = 16

abbrev pub SILENT : ℕ
SILENT = 17

abbrev pub QUERY-DUE-SILENT : ℕ
QUERY-DUE-SILENT = 18

abbrev pub PACER-SHOWN : ℕ
PACER-SHOWN = 19

abbrev pub ANSWERED : ℕ
ANSWERED = 20

abbrev pub UNASKED : ℕ
UNASKED = 21

abbrev pub NO-MESSAGE : ℕ
NO-MESSAGE = 22

abbrev pub OFFERED : ℕ
OFFERED = 23

-- a refusal's kind is this and its number
abbrev pub REFUSED : ℕ
REFUSED = 256

-- an answer that has no number beside its kind, and one with a message's length
abbrev pub plainly : ℕ → Answer
plainly kind = record { kind = kind; value = 0 }

abbrev pub counting : ℕ → ℕ → Answer
counting kind bytes = record { kind = kind; value = bytes }

-- the numbers of an outcome (`codes_one`: no two outcomes have the same)
abbrev pub code_of : Outcome → Answer
code_of (refused number place) = record { kind = REFUSED + number; value = place }
code_of started = plainly STARTED
code_of taken = plainly TAKEN
code_of (sent bytes) = counting SENT bytes
code_of nothing_waiting = plainly NOTHING-WAITING
code_of not_operational = plainly NOT-OPERATIONAL
code_of window_shut = plainly WINDOW-SHUT
code_of withdrawn = plainly WITHDRAWN
code_of accepted = plainly ACCEPTED
code_of due = plainly DUE
code_of other_plane = plainly OTHER-PLANE
code_of (wrote bytes) = counting WROTE bytes
code_of shown = plainly SHOWN
code_of kept = plainly KEPT
code_of none_there = plainly NONE-THERE
code_of quiet = plainly QUIET
code_of query_due = plainly QUERY-DUE
code_of silent = plainly SILENT
code_of query_due_silent = plainly QUERY-DUE-SILENT
code_of pacer_shown = plainly PACER-SHOWN
code_of (answered bytes) = counting ANSWERED bytes
code_of (unasked bytes) = counting UNASKED bytes
code_of no_message = plainly NO-MESSAGE
code_of offered = plainly OFFERED

-- a refusal, and a writer's answer, as an outcome
abbrev pub refused_as : Refusal → Outcome
refused_as refusal = refused refusal.number refusal.place

abbrev pub written_as : Result ByteCount Refusal → Outcome
written_as (Ok bytes) = wrote bytes.0
written_as (Err refusal) = refused_as refusal
