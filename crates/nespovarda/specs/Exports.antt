-- What a call gives a caller that shares no types with Rattle: two numbers, and every lent word and byte.
use Rattle.quantity.specs.declared.count.ByteCount.{ByteCount}
use Rattle.std.specs.Prelude.{ℕ, ◌-◌, Bool, cond, List, [], ◌∷◌, ◌≡◌, eqb, length, replicate, Result, Ok, Err}
use Rattle.quantity.specs.declared.refusal.Refusal.{Refusal}
use Rattle.quantity.specs.Refusals.{OUTSIDE-LIMITS, NO-WAIT}
use Rattle.answer_codes.specs.declared.Answer.{Answer}
use Rattle.answer_codes.specs.Codes.{code_of, STARTED, TAKEN, SENT, NOTHING-WAITING, NOT-OPERATIONAL, WINDOW-SHUT, WITHDRAWN, ACCEPTED, DUE, QUIET, QUERY-DUE, SILENT, QUERY-DUE-SILENT, WROTE, REFUSED}
use Rattle.pacer.specs.declared.PaceAnswer.{PaceAnswer}
use Rattle.ips_channel_rules.specs.Rules as rules
use Rattle.ips_channel_calls.specs.declared.asking.NextAnswer.{NextAnswer}
use Rattle.ips_channel_calls.specs.Calls.{offered, asked, withdrawn}
use Rattle.ips_state.specs.Limits.{waits_fit}
use Rattle.ips_radio.specs.declared.RadioAnswer.{RadioAnswer}
use Rattle.ips_run.specs.Run.{Call, on, radio, pace, query}
use Rattle.ips_calls.specs.Replies.{EndpointReply, of_channel, of_radio, of_pace, of_query, reply_of}
use Rattle.ips_words_start.specs.Start.{starts_in, begins_in, not_started, configuration_in, fresh_words}
use Rattle.endpoint.specs.Lent.{Lent, lent, world_in, after_in}
use Rattle.nespovarda.specs.Outcomes.{started_as, outcome_of, output_of}

-- THE CONTRACT OF AN EXPORTED CALL: the numbers and the output of its reply, and what it leaves
pub record Exported (c : Call) (l : Lent) (r : Answer) (out' : List ℕ) (l' : Lent) : Type 0 where
  pub answer_is : r ≡ code_of (outcome_of (reply_of c (world_in l)))
  pub output_is : out' ≡ output_of (reply_of c (world_in l))
  pub lent_is : l' ≡ after_in c l

-- a call that takes no memory leaves any
abbrev pub ExportedWithAny : Call → List ℕ → Answer → List ℕ → List ℕ → Type 0
ExportedWithAny c words r out' words' = (memory : List ℕ) → Exported c (lent words memory) r out' (lent words' memory)

-- THE CONTRACT OF AN EXPORTED START
pub record StartExported (configuration words memory : List ℕ) (r : Answer) (words' memory' : List ℕ) : Type 0 where
  pub answer_is : r
      ≡ code_of
      (started_as (cond (starts_in configuration words memory) (cond (waits_fit (configuration_in configuration)) (Ok tt) (not_started NO-WAIT)) (not_started OUTSIDE-LIMITS)))
  pub words_are : words' ≡ cond (begins_in configuration words memory) (fresh_words (configuration_in configuration)) words
  pub memory_is : memory' ≡ cond (begins_in configuration words memory) (replicate (length memory) 0) memory

-- ---- THE REPLY THAT NUMBERS AND AN OUTPUT SAY (`exports_say`: each exported call's numbers say its reply): by the call's own kinds, else a refusal
abbrev pub refusal_in : Answer → Refusal
refusal_in r = record { number = r.kind - REFUSED; place = r.value }

abbrev pub is_kind : Answer → ℕ → Bool
is_kind r kind = eqb r.kind kind

abbrev pub start_said : Answer → Result (Unit {0}) Refusal
start_said r = cond (is_kind r STARTED) (Ok tt) (Err (refusal_in r))

abbrev pub offer_said : Answer → Result (Unit {0}) Refusal
offer_said r = cond (is_kind r TAKEN) (Ok tt) (Err (refusal_in r))

abbrev pub next_said : Answer → Result NextAnswer Refusal
next_said r =
    cond (is_kind r SENT) (Ok (NextAnswer.Sent (record { 0 = r.value })))
    (cond (is_kind r NOTHING-WAITING) (Ok NextAnswer.NothingWaiting)
    (cond (is_kind r NOT-OPERATIONAL) (Ok NextAnswer.NotOperational) (cond (is_kind r WINDOW-SHUT) (Ok NextAnswer.WindowShut) (Err (refusal_in r)))))

abbrev pub withdraw_said : Answer → Result (Unit {0}) Refusal
withdraw_said r = cond (is_kind r WITHDRAWN) (Ok tt) (Err (refusal_in r))

abbrev pub radio_said : Answer → Result RadioAnswer Refusal
radio_said r = cond (is_kind r ACCEPTED) (Ok RadioAnswer.Accepted) (cond (is_kind r DUE) (Ok RadioAnswer.Due) (Err (refusal_in r)))

abbrev pub pace_said : Answer → Result PaceAnswer Refusal
pace_said r =
    cond (is_kind r QUIET) (Ok PaceAnswer.Quiet)
    (cond (is_kind r QUERY-DUE) (Ok PaceAnswer.Due)
    (cond (is_kind r SILENT) (Ok PaceAnswer.Silent) (cond (is_kind r QUERY-DUE-SILENT) (Ok PaceAnswer.DueSilent) (Err (refusal_in r)))))

abbrev pub write_said : Answer → Result ByteCount Refusal
write_said r = cond (is_kind r WROTE) (Ok (record { 0 = r.value })) (Err (refusal_in r))

abbrev pub reply_said : Call → Answer → List ℕ → EndpointReply
reply_said (on id (rules.offer packet time)) r out = of_channel (offered (offer_said r))
reply_said (on id (rules.next time before)) r out = of_channel (asked (next_said r) out)
reply_said (on id rules.withdraw) r out = of_channel (withdrawn (withdraw_said r))
reply_said (radio time datagram) r out = of_radio (radio_said r)
reply_said (pace time) r out = of_pace (pace_said r)
reply_said (query before) r out = of_query (write_said r) out

-- ---- any sequence of exported calls, "each taking the state and the lent memory as the one before left them": what the caller is told of each
pub record Told : Type 0 where
  pub answer : Answer
  pub out : List ℕ

pub data RanExported : Lent → List Call → List Told → Lent → Type 0 where
  over : {l : Lent} → RanExported l [] [] l
  ran : {l l' last : Lent} {c : Call} {t : Told} {cs : List Call} {ts : List Told} → Exported c l t.answer t.out l' → RanExported l' cs ts last → RanExported l (c ∷ cs) (t ∷ ts) last

abbrev pub replies_said : List Call → List Told → List EndpointReply
replies_said [] ts = []
replies_said (c ∷ cs) [] = []
replies_said (c ∷ cs) (t ∷ ts) = reply_said c t.answer t.out ∷ replies_said cs ts
