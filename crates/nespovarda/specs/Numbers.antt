-- THE NUMBERS THAT A CALLER SEES, in literals: what C's header and other languages write down for themselves.
use Rattle.quantity.specs.declared.count.LinkInstanceId.{LinkInstanceId}
use Rattle.meaning.specs.declared.message.ContextBytes.{ContextBytes}
use Rattle.std.specs.Prelude.{ℕ, ◌+◌, ◌*◌, cond, ◌&&◌, List, [], ◌∷◌, ◌++◌, ◌≡◌, leb, ltb, take, get_or, Option, Some, None, Ok, Err}
use Rattle.quantity.specs.declared.refusal.Refusal.{Refusal}
use Rattle.reader.specs.Readings.{Verdict}
use Rattle.flow.specs.declared.Flow.{Flow}
use Rattle.pacer.specs.declared.PaceAnswer.{PaceAnswer}
use Rattle.store.specs.Waiting.{no_entry}
use Rattle.answer_codes.specs.declared.Answer.{Answer}
use Rattle.answer_codes.specs.Codes.{Outcome, code_of, written_as}
use Rattle.ips_channel.specs.declared.state.Channel.{Channel}
use Rattle.ips_channel_calls.specs.declared.asking.NextAnswer.{NextAnswer}
use Rattle.ips_channel_calls.specs.Calls.{offered, asked, withdrawn}
use Rattle.ips_state.specs.State.{State}
use Rattle.ips_state.specs.Limits.{sizes, state_fits}
use Rattle.ips_state.specs.Memory.{world_fits}
use Rattle.ips_radio.specs.declared.RadioAnswer.{RadioAnswer}
use Rattle.ips_calls.specs.Replies.{EndpointReply, of_channel, of_radio, of_pace, of_query}
use Rattle.message_calls.specs.Calls.{verdict_as}
use Rattle.endpoint.specs.Lent.{Lent, world_in}
use Rattle.handful.specs.Handful.{Handful, is_handful}
use Rattle.nespovarda.specs.Outcomes.{started_as, outcome_of, handed_as}
use Rattle.nespovarda.specs.Shown.{is_had, place_for, channel_for}

abbrev pub numbers : (kind value : ℕ) → Answer
numbers kind value = record { kind = kind; value = value }

abbrev pub refusal : (number place : ℕ) → Refusal
refusal number place = record { number = number; place = place }

-- ---- the numbers of each call's own answers (`numbers_exactly`)
abbrev pub numbers_of : EndpointReply → Answer
numbers_of x = code_of (outcome_of x)

pub record Numbers : Type 0 where
  pub started : code_of (started_as (Ok tt)) ≡ numbers 1 0
  pub start_refused : (number place : ℕ) → code_of (started_as (Err (refusal number place))) ≡ numbers (256 + number) place
  pub taken : numbers_of (of_channel (offered (Ok tt))) ≡ numbers 2 0
  pub offer_refused_lem : (number place : ℕ) → numbers_of (of_channel (offered (Err (refusal number place)))) ≡ numbers (256 + number) place
  pub sent : (bytes : ℕ) (out : List ℕ) → numbers_of (of_channel (asked (Ok (NextAnswer.Sent (record { 0 = bytes }))) out)) ≡ numbers 3 bytes
  pub nothing_waiting : (out : List ℕ) → numbers_of (of_channel (asked (Ok NextAnswer.NothingWaiting) out)) ≡ numbers 4 0
  pub not_operational : (out : List ℕ) → numbers_of (of_channel (asked (Ok NextAnswer.NotOperational) out)) ≡ numbers 5 0
  pub window_shut : (out : List ℕ) → numbers_of (of_channel (asked (Ok NextAnswer.WindowShut) out)) ≡ numbers 6 0
  pub next_refused_lem : (number place : ℕ) (out : List ℕ) → numbers_of (of_channel (asked (Err (refusal number place)) out)) ≡ numbers (256 + number) place
  pub is_withdrawn : numbers_of (of_channel (withdrawn (Ok tt))) ≡ numbers 7 0
  pub withdraw_refused_lem : (number place : ℕ) → numbers_of (of_channel (withdrawn (Err (refusal number place)))) ≡ numbers (256 + number) place
  pub accepted : numbers_of (of_radio (Ok RadioAnswer.Accepted)) ≡ numbers 8 0
  pub due : numbers_of (of_radio (Ok RadioAnswer.Due)) ≡ numbers 9 0
  pub radio_refused_lem : (number place : ℕ) → numbers_of (of_radio (Err (refusal number place))) ≡ numbers (256 + number) place
  pub is_offered : code_of (handed_as (Ok tt)) ≡ numbers 23 0
  pub handful_refused : (number place : ℕ) → code_of (handed_as (Err (refusal number place))) ≡ numbers (256 + number) place
  pub quiet : numbers_of (of_pace (Ok PaceAnswer.Quiet)) ≡ numbers 15 0
  pub query_due : numbers_of (of_pace (Ok PaceAnswer.Due)) ≡ numbers 16 0
  pub silent : numbers_of (of_pace (Ok PaceAnswer.Silent)) ≡ numbers 17 0
  pub query_due_silent : numbers_of (of_pace (Ok PaceAnswer.DueSilent)) ≡ numbers 18 0
  pub pace_refused : (number place : ℕ) → numbers_of (of_pace (Err (refusal number place))) ≡ numbers (256 + number) place
  pub query_wrote : (bytes : ℕ) (out : List ℕ) → numbers_of (of_query (Ok (record { 0 = bytes })) out) ≡ numbers 11 bytes
  pub query_refused : (number place : ℕ) (out : List ℕ) → numbers_of (of_query (Err (refusal number place)) out) ≡ numbers (256 + number) place
  pub read_accepted : code_of (verdict_as Verdict.Accepted) ≡ numbers 8 0
  pub other_plane : code_of (verdict_as Verdict.OtherPlane) ≡ numbers 10 0
  pub read_refused : (number place : ℕ) → code_of (verdict_as (Verdict.Refused (refusal number place))) ≡ numbers (256 + number) place
  pub wrote : (bytes : ℕ) → code_of (written_as (Ok (record { 0 = bytes }))) ≡ numbers 11 bytes
  pub write_refused : (number place : ℕ) → code_of (written_as (Err (refusal number place))) ≡ numbers (256 + number) place
  pub shown : code_of Outcome.shown ≡ numbers 12 0
  pub kept : code_of Outcome.kept ≡ numbers 13 0
  pub none_there : code_of Outcome.none_there ≡ numbers 14 0
  pub pacer_shown : code_of Outcome.pacer_shown ≡ numbers 19 0

-- ---- what a handful comes to as a whole (`handful_told`): 23; else 256 and 19, 256 and 24
abbrev pub handful_numbers : Handful → Lent → (answers : ℕ) → Answer
handful_numbers h l answers = cond (world_fits (world_in l)) (cond (is_handful h answers) (numbers 23 0) (numbers 280 0)) (numbers 275 0)

-- ---- how many words a state of so many channels asks for (`words_exactly`)
abbrev pub words_number : (channels : ℕ) → ℕ
words_number channels = cond (leb 1 channels && leb channels 64) (14 + 74 * channels) 0

-- ---- what is shown of a channel (`shown_exactly`): reported (0 or 1) with the status, flow (0 free, 1 no window, 2 a window in force) with the window, sequence,
-- latest, waiting; store_start, the sum of the stores before it; and store_length
abbrev pub reported_numbers : Option ℕ → List ℕ
reported_numbers None = 0 ∷ 0 ∷ []
reported_numbers (Some status) = 1 ∷ status ∷ []

abbrev pub flow_numbers : Flow → List ℕ
flow_numbers Flow.Free = 0 ∷ 0 ∷ []
flow_numbers Flow.NoWindow = 1 ∷ 0 ∷ []
flow_numbers (Flow.InForce window) = 2 ∷ window.0 ∷ []

abbrev pub counted_numbers : Channel → (stores : ℕ) → List ℕ
counted_numbers c stores = c.sequence.0 ∷ c.latest ∷ c.queue.count ∷ stores ∷ c.setting.size.0 ∷ []

abbrev pub nine_numbers : State → (place : ℕ) → Channel → List ℕ
nine_numbers s place c = reported_numbers c.status ++ (flow_numbers c.flow ++ counted_numbers c (sizes (take place s.channels)))

-- a channel of an ID, where the state fits and has one; else 256 and 12, 256 and 19, and the numbers as they were
abbrev pub answer_for : State → (id : ℕ) → Answer → Answer
answer_for s id answer = cond (state_fits s) (cond (is_had s id) answer (numbers 268 0)) (numbers 275 0)

abbrev pub shown_for : State → (id : ℕ) → (shown before : List ℕ) → List ℕ
shown_for s id shown before = cond (state_fits s) (cond (is_had s id) shown before) before

pub record ShownExactly (s : State) (id : ℕ) (before : List ℕ) (r : Answer) (after : List ℕ) : Type 0 where
  pub answers : r ≡ answer_for s id (numbers 12 0)
  pub shows : after ≡ shown_for s id (nine_numbers s (place_for s id) (channel_for s id)) before

-- of a waiting packet (`waiting_exactly`): its length and its expiry
pub record WaitingExactly (s : State) (id position : ℕ) (before : List ℕ) (r : Answer) (after : List ℕ) : Type 0 where
  pub answers : r ≡ answer_for s id (cond (ltb position (channel_for s id).queue.count) (numbers 12 0) (numbers 14 0))
  pub shows : after
      ≡ shown_for s id
      (cond (ltb position (channel_for s id).queue.count)
      ((get_or (channel_for s id).queue.entries position no_entry).length.0 ∷ (get_or (channel_for s id).queue.entries position no_entry).expiry ∷ []) before)
      before

-- what is kept (`kept_exactly`): the length, 0 where there is none, and the number that the bytes spell
abbrev pub link_numbers : Option (LinkInstanceId × ℕ) → List ℕ
link_numbers None = 0 ∷ 0 ∷ []
link_numbers (Some (id, length)) = length ∷ id.0 ∷ []

abbrev pub context_numbers : Option (ContextBytes × ℕ) → List ℕ
context_numbers None = 0 ∷ 0 ∷ []
context_numbers (Some (bytes, length)) = length ∷ bytes.0 ∷ []

pub record KeptExactly (s : State) (before : List ℕ) (r : Answer) (after : List ℕ) : Type 0 where
  pub answers : r ≡ cond (state_fits s) (numbers 13 0) (numbers 275 0)
  pub shows : after ≡ cond (state_fits s) (link_numbers s.instance ++ context_numbers s.context) before

-- the pacer (`pacer_exactly`): hello, limit, clock, due, heard
pub record PacerExactly (s : State) (before : List ℕ) (r : Answer) (after : List ℕ) : Type 0 where
  pub answers : r ≡ cond (state_fits s) (numbers 19 0) (numbers 275 0)
  pub shows : after ≡ cond (state_fits s) (s.pacer.hello ∷ s.pacer.limit ∷ s.pacer.clock ∷ s.pacer.due ∷ s.pacer.heard ∷ []) before
