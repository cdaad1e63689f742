-- From a call's contract to its export's, and back: an exported call's numbers say its reply, so whatever is promised of replies is promised of the numbers.
-- Assumes nothing.
use Rattle.std.specs.Prelude.{Result, Ok, Err}
use Rattle.quantity.specs.declared.count.ByteCount.{ByteCount}
use Prim.Native.Nat.{ℕ, ◌<◌, ◌+◌, ◌-◌}
use mathlib.Core.Bool.{false}
use mathlib.Core.List.{List}
use mathlib.Core.Path.{◌≡◌, refl, ap, ap₂, ◌∙◌}
use native.Mathlib.Omega.{arith}
use borrow.Author.Tests.{ne_eqb}
use Rattle.quantity.specs.declared.refusal.Refusal.{Refusal}
use Rattle.answer_codes.specs.declared.Answer.{Answer}
use Rattle.answer_codes.specs.Codes.{code_of, refused_as, written_as, STARTED, TAKEN, SENT, NOTHING-WAITING, NOT-OPERATIONAL, WINDOW-SHUT, WITHDRAWN, ACCEPTED, DUE, QUIET, QUERY-DUE, SILENT, QUERY-DUE-SILENT, WROTE, REFUSED}
use Rattle.pacer.specs.declared.PaceAnswer.{PaceAnswer}
use Rattle.ips_channel_rules.specs.Rules as rules
use Rattle.ips_channel_calls.specs.declared.asking.NextAnswer.{NextAnswer}
use Rattle.ips_channel_calls.specs.Calls.{offered, asked, withdrawn, offer_answer, next_answer, withdraw_answer, output_after}
use Rattle.ips_state.specs.Memory.{World, index_in}
use Rattle.ips_radio.specs.declared.RadioAnswer.{RadioAnswer}
use Rattle.ips_run.specs.Calling.{terms_in, calling}
use Rattle.ips_run.specs.Run.{Call, on, radio, pace, query}
use Rattle.ips_calls.specs.Radio.{handed_in}
use Rattle.ips_calls.specs.Pace.{pace_answer}
use Rattle.ips_calls.specs.Query.{query_answer, query_out}
use Rattle.ips_calls.specs.Replies.{EndpointReply, of_channel, of_radio, of_pace, of_query, reply_of}
use Rattle.ips_words_start.specs.Start.{StartedIn}
use Rattle.endpoint.specs.Lent.{Lent, world_in}
use Rattle.endpoint.specs.Calls.{PerformedIn}
use Rattle.endpoint.specs.Ran.{RanIn}
use Rattle.nespovarda.specs.Outcomes.{started_as, offered_as, asked_as, withdrawn_as, heard_as, paced_as, outcome_of, output_of}
use Rattle.nespovarda.specs.Exports.{Exported, StartExported, is_kind, start_said, offer_said, next_said, withdraw_said, radio_said, pace_said, write_said, reply_said, Told, RanExported, replies_said}

-- ---- from a call to its export
pub exports : {c : Call} {l : Lent} {x : EndpointReply} {l' : Lent} → PerformedIn c l x l' → (r : Answer) → r ≡ code_of (outcome_of x) → Exported c l r (output_of x) l'
exports h r e = record {
  answer_is = e ∙ ap (λ (x : EndpointReply). code_of (outcome_of x)) h.reply_is;
  output_is = ap (λ (x : EndpointReply). output_of x) h.reply_is;
  lent_is = h.lent_is;
}

pub start_exports : {configuration words memory words' memory' : List ℕ} {answer : Result (Unit {0}) Refusal} → StartedIn configuration words memory answer words' memory'
    → (r : Answer) → r ≡ code_of (started_as answer) → StartExported configuration words memory r words' memory'
start_exports h r e = record {
  answer_is = e ∙ ap (λ (a : Result (Unit {0}) Refusal). code_of (started_as a)) h.answer_is;
  words_are = h.words_are;
  memory_is = h.memory_is;
}

-- ---- a refusal's numbers say it, its kind being no other answer's; and so do each answer's
pub no_kind : (refusal : Refusal) (kind : ℕ) → kind < REFUSED → is_kind (code_of (refused_as refusal)) kind ≡ false
no_kind refusal kind less = ne_eqb (REFUSED + refusal.number) kind (λ same. omega (arith, less, same))

pub number_back : (number : ℕ) → (REFUSED + number) - REFUSED ≡ number
number_back number = omega arith

start_back : (a : Result (Unit {0}) Refusal) → start_said (code_of (started_as a)) ≡ a
start_back (Ok tt) = refl
start_back (Err refusal) = rw (no_kind refusal STARTED (omega arith), number_back refusal.number)

offer_back : (a : Result (Unit {0}) Refusal) → offer_said (code_of (offered_as a)) ≡ a
offer_back (Ok tt) = refl
offer_back (Err refusal) = rw (no_kind refusal TAKEN (omega arith), number_back refusal.number)

next_back : (a : Result NextAnswer Refusal) → next_said (code_of (asked_as a)) ≡ a
next_back (Ok (NextAnswer.Sent bytes)) = refl
next_back (Ok NextAnswer.NothingWaiting) = refl
next_back (Ok NextAnswer.NotOperational) = refl
next_back (Ok NextAnswer.WindowShut) = refl
next_back (Err refusal) =
    rw (no_kind refusal SENT (omega arith), no_kind refusal NOTHING-WAITING (omega arith), no_kind refusal NOT-OPERATIONAL (omega arith), no_kind refusal WINDOW-SHUT (omega arith), number_back refusal.number)

withdraw_back : (a : Result (Unit {0}) Refusal) → withdraw_said (code_of (withdrawn_as a)) ≡ a
withdraw_back (Ok tt) = refl
withdraw_back (Err refusal) = rw (no_kind refusal WITHDRAWN (omega arith), number_back refusal.number)

radio_back : (a : Result RadioAnswer Refusal) → radio_said (code_of (heard_as a)) ≡ a
radio_back (Ok RadioAnswer.Accepted) = refl
radio_back (Ok RadioAnswer.Due) = refl
radio_back (Err refusal) = rw (no_kind refusal ACCEPTED (omega arith), no_kind refusal DUE (omega arith), number_back refusal.number)

pace_back : (a : Result PaceAnswer Refusal) → pace_said (code_of (paced_as a)) ≡ a
pace_back (Ok PaceAnswer.Quiet) = refl
pace_back (Ok PaceAnswer.Due) = refl
pace_back (Ok PaceAnswer.Silent) = refl
pace_back (Ok PaceAnswer.DueSilent) = refl
pace_back (Err refusal) =
    rw (no_kind refusal QUIET (omega arith), no_kind refusal QUERY-DUE (omega arith), no_kind refusal SILENT (omega arith), no_kind refusal QUERY-DUE-SILENT (omega arith), number_back refusal.number)

write_back : (a : Result ByteCount Refusal) → write_said (code_of (written_as a)) ≡ a
write_back (Ok bytes) = refl
write_back (Err refusal) = rw (no_kind refusal WROTE (omega arith), number_back refusal.number)

-- ---- a reply's numbers and its output say it
reply_back : (c : Call) (w : World) → reply_said c (code_of (outcome_of (reply_of c w))) (output_of (reply_of c w)) ≡ reply_of c w
reply_back (on id (rules.offer packet time)) w = ap (λ (a : Result (Unit {0}) Refusal). of_channel (offered a)) (offer_back (offer_answer (calling id (rules.offer packet time) w).answer))
reply_back (on id (rules.next time out)) w =
    let answer = (calling id (rules.next time out) w).answer in
    let k = terms_in w (index_in w id) in
    ap (λ (a : Result NextAnswer Refusal). of_channel (asked a (output_after k answer out))) (next_back (next_answer k answer))
reply_back (on id rules.withdraw) w = ap (λ (a : Result (Unit {0}) Refusal). of_channel (withdrawn a)) (withdraw_back (withdraw_answer (calling id rules.withdraw w).answer))
reply_back (radio time datagram) w = ap of_radio (radio_back (handed_in time w.state datagram).answer)
reply_back (pace time) w = ap of_pace (pace_back (pace_answer time w.state))
reply_back (query out) w = ap (λ (a : Result ByteCount Refusal). of_query a (query_out w.state out)) (write_back (query_answer w.state out))

pub exports_say : {c : Call} {l : Lent} {r : Answer} {out' : List ℕ} {l' : Lent} → Exported c l r out' l' → PerformedIn c l (reply_said c r out') l'
exports_say {c} {l} {r} {out'} h = record {
  reply_is = ap₂ {C = EndpointReply} (λ (a : Answer) (out : List ℕ). reply_said c a out) h.answer_is h.output_is ∙ reply_back c (world_in l);
  lent_is = h.lent_is;
}

pub ran_says : {l last : Lent} {cs : List Call} {ts : List Told} → RanExported l cs ts last → RanIn l cs (replies_said cs ts) last
ran_says RanExported.over = RanIn.over
ran_says (RanExported.ran h rest) = RanIn.ran (exports_say h) (ran_says rest)

pub start_says : {configuration words memory words' memory' : List ℕ} {r : Answer} → StartExported configuration words memory r words' memory'
    → StartedIn configuration words memory (start_said r) words' memory'
start_says h = record { answer_is = ap (λ (a : Answer). start_said a) h.answer_is ∙ start_back _; words_are = h.words_are; memory_is = h.memory_is }
