-- What stands in the state, as numbers: of the channel of an ID, of a packet that waits on it, what is kept, and the pacer.
use Rattle.quantity.specs.declared.count.LinkInstanceId.{LinkInstanceId}
use Rattle.meaning.specs.declared.message.ContextBytes.{ContextBytes}
use Rattle.std.specs.Prelude.{ℕ, Bool, cond, List, [], ◌∷◌, ◌≡◌, ltb, get_or, Option}
use Rattle.quantity.specs.Refusals.{NO-CHANNEL, OUTSIDE-LIMITS}
use Rattle.meaning.specs.Kinds.{among}
use Rattle.store.specs.declared.queue.Entry.{Entry}
use Rattle.store.specs.Waiting.{no_entry}
use Rattle.answer_codes.specs.declared.Answer.{Answer}
use Rattle.answer_codes.specs.Codes.{Outcome, code_of}
use Rattle.lent_messages.specs.Stated.{instance_stated, context_stated}
use Rattle.pacer.specs.declared.Pacer.{Pacer}
use Rattle.ips_channel.specs.declared.state.Channel.{Channel}
use Rattle.ips_state.specs.State.{State, channel_at}
use Rattle.ips_state.specs.Limits.{ids, index_of, state_fits}
use Rattle.ips_state.specs.Memory.{start_of}
use Rattle.ips_words.specs.Words.{status_tag, status_value, flow_tag, flow_window}

-- ---- the channel of an ID, and where it stands in the configuration
abbrev pub is_had : State → (id : ℕ) → Bool
is_had s id = among id (ids s.channels)

abbrev pub place_for : State → (id : ℕ) → ℕ
place_for s id = index_of id (ids s.channels)

abbrev pub channel_for : State → (id : ℕ) → Channel
channel_for s id = channel_at s (place_for s id)

-- ---- 19, then 12; else an outcome, and the numbers that come with it. A refusal leaves the numbers as they were
abbrev pub outside : Outcome
outside = Outcome.refused OUTSIDE-LIMITS 0

unfoldable pub outcome_for : State → (id : ℕ) → Outcome → Outcome
outcome_for s id outcome = cond (state_fits s) (cond (is_had s id) outcome (Outcome.refused NO-CHANNEL 0)) outside

unfoldable pub numbers_for : State → (id : ℕ) → (numbers before : List ℕ) → List ℕ
numbers_for s id numbers before = cond (state_fits s) (cond (is_had s id) numbers before) before

pub record Shows (s : State) (id : ℕ) (outcome : Outcome) (numbers before : List ℕ) (r : Answer) (after : List ℕ) : Type 0 where
  pub answer_is : r ≡ code_of (outcome_for s id outcome)
  pub numbers_are : after ≡ numbers_for s id numbers before

-- ---- a channel's numbers: reported or not, status, flow state, window, sequence, latest time, how many packets wait, where its store starts in the memory, and
-- how long that is
abbrev pub channel_numbers : Channel → (start : ℕ) → List ℕ
channel_numbers c start =
    status_tag c.status ∷ status_value c.status ∷ flow_tag c.flow ∷ flow_window c.flow ∷ c.sequence.0 ∷ c.latest ∷ c.queue.count ∷ start
    ∷ c.setting.size.0 ∷ []

abbrev pub ShowsChannel : State → (id : ℕ) → (before : List ℕ) → Answer → (after : List ℕ) → Type 0
ShowsChannel s id before r after = Shows s id Outcome.shown (channel_numbers (channel_for s id) (start_of s (place_for s id))) before r after

-- ---- a waiting packet's: its length and its expiry
abbrev pub entry_numbers : Entry → List ℕ
entry_numbers e = e.length.0 ∷ e.expiry ∷ []

unfoldable pub waiting_outcome : Channel → (position : ℕ) → Outcome
waiting_outcome c position = cond (ltb position c.queue.count) Outcome.shown Outcome.none_there

unfoldable pub waiting_numbers : Channel → (position : ℕ) → (before : List ℕ) → List ℕ
waiting_numbers c position before = cond (ltb position c.queue.count) (entry_numbers (get_or c.queue.entries position no_entry)) before

-- of one channel
pub record WaitingAt (c : Channel) (position : ℕ) (before : List ℕ) (r : Answer) (after : List ℕ) : Type 0 where
  pub answer_is : r ≡ code_of (waiting_outcome c position)
  pub numbers_are : after ≡ waiting_numbers c position before

abbrev pub ShowsWaiting : State → (id position : ℕ) → (before : List ℕ) → Answer → (after : List ℕ) → Type 0
ShowsWaiting s id position before r after =
    Shows s id (waiting_outcome (channel_for s id) position) (waiting_numbers (channel_for s id) position before) before r after

-- ---- of the endpoint itself: 19; else an outcome, and the numbers that come with it
pub record ShowsOwn (s : State) (outcome : Outcome) (numbers before : List ℕ) (r : Answer) (after : List ℕ) : Type 0 where
  pub answer_is : r ≡ code_of (cond (state_fits s) outcome outside)
  pub numbers_are : after ≡ cond (state_fits s) numbers before

-- what is kept: of the Link Instance and of the Context the length, 0 where there is none, and the number that the bytes spell
abbrev pub kept_numbers : Option (LinkInstanceId × ℕ) → Option (ContextBytes × ℕ) → List ℕ
kept_numbers link last = (instance_stated link).second ∷ (instance_stated link).first ∷ (context_stated last).second ∷ (context_stated last).first ∷ []

abbrev pub ShowsKept : State → (before : List ℕ) → Answer → (after : List ℕ) → Type 0
ShowsKept s before r after = ShowsOwn s Outcome.kept (kept_numbers s.instance s.context) before r after

-- the pacer: HelloTime and silence limit as configured, its clock, the last query due and the last accepted radio control message
abbrev pub pacer_numbers : Pacer → List ℕ
pacer_numbers p = p.hello ∷ p.limit ∷ p.clock ∷ p.due ∷ p.heard ∷ []

abbrev pub ShowsPacer : State → (before : List ℕ) → Answer → (after : List ℕ) → Type 0
ShowsPacer s before r after = ShowsOwn s Outcome.pacer_shown (pacer_numbers s.pacer) before r after
