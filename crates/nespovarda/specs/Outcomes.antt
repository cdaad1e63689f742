-- The outcome of each call: its answer without the output's bytes.
use Rattle.quantity.specs.declared.refusal.Refusal.{Refusal}
use Rattle.std.specs.Prelude.{ℕ, List, [], Result, Ok, Err}
use Rattle.answer_codes.specs.Codes.{Outcome, refused_as, written_as}
use Rattle.pacer.specs.declared.PaceAnswer.{PaceAnswer}
use Rattle.ips_channel_calls.specs.declared.asking.NextAnswer.{NextAnswer}
use Rattle.ips_channel_calls.specs.Calls.{offered, asked, withdrawn}
use Rattle.ips_radio.specs.declared.RadioAnswer.{RadioAnswer}
use Rattle.ips_calls.specs.Replies.{EndpointReply, of_channel, of_radio, of_pace, of_query}

abbrev pub started_as : Result (Unit {0}) Refusal → Outcome
started_as (Ok tt) = Outcome.started
started_as (Err refusal) = refused_as refusal

abbrev pub offered_as : Result (Unit {0}) Refusal → Outcome
offered_as (Ok tt) = Outcome.taken
offered_as (Err refusal) = refused_as refusal

abbrev pub asked_as : Result NextAnswer Refusal → Outcome
asked_as (Ok (NextAnswer.Sent bytes)) = Outcome.sent bytes.0
asked_as (Ok NextAnswer.NothingWaiting) = Outcome.nothing_waiting
asked_as (Ok NextAnswer.NotOperational) = Outcome.not_operational
asked_as (Ok NextAnswer.WindowShut) = Outcome.window_shut
asked_as (Err refusal) = refused_as refusal

abbrev pub withdrawn_as : Result (Unit {0}) Refusal → Outcome
withdrawn_as (Ok tt) = Outcome.withdrawn
withdrawn_as (Err refusal) = refused_as refusal

abbrev pub heard_as : Result RadioAnswer Refusal → Outcome
heard_as (Ok RadioAnswer.Accepted) = Outcome.accepted
heard_as (Ok RadioAnswer.Due) = Outcome.due
heard_as (Err refusal) = refused_as refusal

abbrev pub paced_as : Result PaceAnswer Refusal → Outcome
paced_as (Ok PaceAnswer.Quiet) = Outcome.quiet
paced_as (Ok PaceAnswer.Due) = Outcome.query_due
paced_as (Ok PaceAnswer.Silent) = Outcome.silent
paced_as (Ok PaceAnswer.DueSilent) = Outcome.query_due_silent
paced_as (Err refusal) = refused_as refusal

abbrev pub handed_as : Result (Unit {0}) Refusal → Outcome
handed_as (Ok tt) = Outcome.offered
handed_as (Err refusal) = refused_as refusal

abbrev pub outcome_of : EndpointReply → Outcome
outcome_of (of_channel (offered answer)) = offered_as answer
outcome_of (of_channel (asked answer out)) = asked_as answer
outcome_of (of_channel (withdrawn answer)) = withdrawn_as answer
outcome_of (of_radio answer) = heard_as answer
outcome_of (of_pace answer) = paced_as answer
outcome_of (of_query answer out) = written_as answer

-- the output's bytes after it; none where no output is lent
abbrev pub output_of : EndpointReply → List ℕ
output_of (of_channel (offered answer)) = []
output_of (of_channel (asked answer out)) = out
output_of (of_channel (withdrawn answer)) = []
output_of (of_radio answer) = []
output_of (of_pace answer) = []
output_of (of_query answer out) = out
