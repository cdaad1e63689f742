-- The numbers that a caller sees are those of the table, in literals. Assumes nothing.
use Rattle.std.specs.Prelude.{Option, Some, None, Ok}
use Rattle.quantity.specs.declared.count.LinkInstanceId.{LinkInstanceId}
use Rattle.meaning.specs.declared.message.ContextBytes.{ContextBytes}
use Prim.Native.Nat.{ℕ}
use mathlib.Core.Bool.{Bool, true, false, cond}
use mathlib.Core.List.{List, ◌∷◌, ◌++◌}
use mathlib.Core.Path.{◌≡◌, refl, ap, ◌∙◌}
use lib.Dec.{ltb}
use lib.ListN.{take, length}
use Rattle.quantity.specs.Refusals.{NO-CHANNEL}
use Rattle.flow.specs.declared.Flow.{Flow}
use Rattle.answer_codes.specs.declared.Answer.{Answer}
use Rattle.answer_codes.specs.Codes.{Outcome, code_of}
use Rattle.ips_words.specs.Words.{status_tag, status_value, flow_tag, flow_window}
use Rattle.ips_channel.specs.declared.state.Channel.{Channel}
use Rattle.ips_state.specs.State.{State}
use Rattle.ips_state.specs.Limits.{sizes, state_fits}
use Rattle.ips_state.specs.Memory.{start_of, world_fits}
use Rattle.endpoint.specs.Lent.{Lent, world_in}
use Rattle.endpoint.specs.Shown.{words_needed}
use Rattle.handful.specs.Handful.{Handful, is_handful, refused_handful}
use Rattle.nespovarda.specs.Outcomes.{handed_as}
use Rattle.nespovarda.specs.Handing.{HandfulExported}
use Rattle.nespovarda.specs.Shown.{is_had, place_for, channel_for, outside, outcome_for, numbers_for, channel_numbers, ShowsChannel, waiting_outcome, waiting_numbers, ShowsWaiting, kept_numbers, ShowsKept, ShowsPacer}
use Rattle.nespovarda.specs.Numbers.{Numbers, numbers, handful_numbers, words_number, reported_numbers, flow_numbers, counted_numbers, nine_numbers, answer_for, shown_for, ShownExactly, WaitingExactly, link_numbers, context_numbers, KeptExactly, PacerExactly}

pub numbers_exactly : Numbers
numbers_exactly = record {
  started = refl;
  start_refused = λ number place. refl;
  taken = refl;
  offer_refused_lem = λ number place. refl;
  sent = λ bytes out. refl;
  nothing_waiting = λ out. refl;
  not_operational = λ out. refl;
  window_shut = λ out. refl;
  next_refused_lem = λ number place out. refl;
  is_withdrawn = refl;
  withdraw_refused_lem = λ number place. refl;
  accepted = refl;
  due = refl;
  radio_refused_lem = λ number place. refl;
  is_offered = refl;
  handful_refused = λ number place. refl;
  quiet = refl;
  query_due = refl;
  silent = refl;
  query_due_silent = refl;
  pace_refused = λ number place. refl;
  query_wrote = λ bytes out. refl;
  query_refused = λ number place out. refl;
  read_accepted = refl;
  other_plane = refl;
  read_refused = λ number place. refl;
  wrote = λ bytes. refl;
  write_refused = λ number place. refl;
  shown = refl;
  kept = refl;
  none_there = refl;
  pacer_shown = refl;
}

-- ---- a handful as a whole
in_numbers : (fits is : Bool)
    → code_of (handed_as (cond fits (cond is (Ok tt) (refused_handful 24)) (refused_handful 19))) ≡ cond fits (cond is (numbers 23 0) (numbers 280 0)) (numbers 275 0)
in_numbers true true = refl
in_numbers true false = refl
in_numbers false is = refl

pub handful_told : {h : Handful} {l : Lent} {answers : List ℕ} {r : Answer} {l' : Lent} {answers' : List ℕ} → HandfulExported h l answers r l' answers' → r ≡ handful_numbers h l (length answers)
handful_told {h} {l} {answers} e = e.answer_is ∙ in_numbers (world_fits (world_in l)) (is_handful h (length answers))

pub words_exactly : (channels : ℕ) → words_needed channels ≡ words_number channels
unfolding words_needed
words_exactly channels = refl

-- ---- what is shown
by_channel : (fits had : Bool) (outcome : Outcome)
    → code_of (cond fits (cond had outcome (Outcome.refused NO-CHANNEL 0)) outside) ≡ cond fits (cond had (code_of outcome) (numbers 268 0)) (numbers 275 0)
by_channel false had outcome = refl
by_channel true false outcome = refl
by_channel true true outcome = refl

answers_for : (s : State) (id : ℕ) (outcome : Outcome) → code_of (outcome_for s id outcome) ≡ answer_for s id (code_of outcome)
unfolding outcome_for
answers_for s id outcome = by_channel (state_fits s) (is_had s id) outcome

channel_exactly : (status : Option ℕ) (flow : Flow) (rest : List ℕ) → status_tag status ∷ status_value status ∷ flow_tag flow ∷ flow_window flow ∷ rest ≡ reported_numbers status ++ (flow_numbers flow ++ rest)
channel_exactly None Flow.Free rest = refl
channel_exactly None Flow.NoWindow rest = refl
channel_exactly None (Flow.InForce window) rest = refl
channel_exactly (Some status) Flow.Free rest = refl
channel_exactly (Some status) Flow.NoWindow rest = refl
channel_exactly (Some status) (Flow.InForce window) rest = refl

numbers_of_lem : (s : State) (place : ℕ) (c : Channel) → channel_numbers c (start_of s place) ≡ nine_numbers s place c
unfolding start_of
numbers_of_lem s place c = channel_exactly c.status c.flow (counted_numbers c (sizes (take place s.channels)))

pub shown_exactly : {s : State} {id : ℕ} {before : List ℕ} {r : Answer} {after : List ℕ} → ShowsChannel s id before r after → ShownExactly s id before r after
unfolding numbers_for
shown_exactly {s} {id} {before} h = record {
  answers = h.answer_is ∙ answers_for s id Outcome.shown;
  shows = h.numbers_are ∙ ap (λ (shown : List ℕ). shown_for s id shown before) (numbers_of_lem s (place_for s id) (channel_for s id));
}

waits : (there : Bool) → code_of (cond there Outcome.shown Outcome.none_there) ≡ cond there (numbers 12 0) (numbers 14 0)
waits true = refl
waits false = refl

pub waiting_exactly : {s : State} {id position : ℕ} {before : List ℕ} {r : Answer} {after : List ℕ} → ShowsWaiting s id position before r after → WaitingExactly s id position before r after
unfolding numbers_for waiting_outcome waiting_numbers
waiting_exactly {s} {id} {position} h = record {
  answers = h.answer_is ∙ answers_for s id (waiting_outcome (channel_for s id) position) ∙ ap (λ (a : Answer). answer_for s id a) (waits (ltb position (channel_for s id).queue.count));
  shows = h.numbers_are;
}

kept_numbers_lem : (link : Option (LinkInstanceId × ℕ)) (last : Option (ContextBytes × ℕ)) → kept_numbers link last ≡ link_numbers link ++ context_numbers last
kept_numbers_lem None None = refl
kept_numbers_lem None (Some (bytes, length)) = refl
kept_numbers_lem (Some (id, size)) None = refl
kept_numbers_lem (Some (id, size)) (Some (bytes, length)) = refl

fitting : (fits : Bool) (outcome : Outcome) → code_of (cond fits outcome outside) ≡ cond fits (code_of outcome) (numbers 275 0)
fitting true outcome = refl
fitting false outcome = refl

pub kept_exactly : {s : State} {before : List ℕ} {r : Answer} {after : List ℕ} → ShowsKept s before r after → KeptExactly s before r after
kept_exactly {s} {before} h = record {
  answers = h.answer_is ∙ fitting (state_fits s) Outcome.kept;
  shows = h.numbers_are ∙ ap (λ (shown : List ℕ). cond (state_fits s) shown before) (kept_numbers_lem s.instance s.context);
}

pub pacer_exactly : {s : State} {before : List ℕ} {r : Answer} {after : List ℕ} → ShowsPacer s before r after → PacerExactly s before r after
pacer_exactly {s} h = record { answers = h.answer_is ∙ fitting (state_fits s) Outcome.pacer_shown; shows = h.numbers_are }
