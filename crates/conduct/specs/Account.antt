-- Document 02, §12: the verdict of a channel, over the list of the capture's accepted messages.
use Rattle.quantity.specs.declared.count.FlowSequence.{FlowSequence}
use Rattle.std.specs.Prelude.{◌≡◌, cond, List, [], ◌∷◌, ◌++◌, ℕ, suc, ◌≤◌, eqb, get_or, Option, Some, None}
use Rattle.quantity.specs.declared.count.DatalinkId.{DatalinkId}
use Rattle.meaning.specs.declared.message.Window.{Window}
use Rattle.records.specs.Files.{Report, kept, refused}
use Rattle.ethernet.specs.declared.Kind.{Kind}
use Rattle.ethernet.specs.declared.Ports.{Ports}
use Rattle.ethernet.specs.Kinds.{kind_of}
use Rattle.conduct_rules.specs.declared.Flow.{Flow}
use Rattle.conduct_rules.specs.Rules.{flow_of, Obeys}
use Rattle.conduct.specs.declared.verdict.Finding.{Finding}
use Rattle.conduct.specs.Outcomes.{Message, control, packet, Outcome, nothing, undecides, message, outcome_of}

-- ---- the accepted messages of a capture, in order, each "by record number": from 1 on, every record of the file counted

pub record Numbered : Type 0 where
  pub number : ℕ
  pub message : Message

abbrev pub numbered : ℕ → Outcome → List Numbered
numbered number nothing = []
numbered number undecides = []
numbered number (message stated) = record { number = number; message = stated } ∷ []

unfoldable pub messages_from : Ports → DatalinkId → (number : ℕ) → List Report → List Numbered
messages_from ports id number [] = []
messages_from ports id number (kept original frame ∷ reports) = numbered number (outcome_of ports id original frame) ++ messages_from ports id (suc number) reports
messages_from ports id number (refused refusal ∷ reports) = messages_from ports id number reports

abbrev pub messages_of : Ports → DatalinkId → List Report → List Numbered
messages_of ports id reports = messages_from ports id 1 reports

-- ---- what stood before a message

-- what messages state, in order, and the last of it
abbrev pub stated_in : {A : Type 0} → (Message → List A) → List Numbered → List A
stated_in states [] = []
stated_in states (m ∷ ms) = states m.message ++ stated_in states ms

abbrev pub last_or : {A : Type 0} → A → List A → A
last_or none [] = none
last_or none (x ∷ xs) = last_or x xs

-- a message's Flow Window for a channel
abbrev pub window_in : ℕ → List (Option Window) → Option Window
window_in channel cells = (get_or cells channel None)

abbrev pub flows_by : ℕ → Message → List Flow
flows_by channel (control cells) = flow_of (window_in channel cells) ∷ []
flows_by channel (packet own bytes carried) = []

-- "the window last seen in the recording": the flow is what the latest radio control message before made of it, none seen yet being a case of its own
abbrev pub flow_before : ℕ → List Numbered → Flow
flow_before channel before = last_or Flow.Unseen (stated_in (flows_by channel) before)

abbrev pub if_given : Option FlowSequence → List (Option FlowSequence)
if_given None = []
if_given (Some sequence) = Some sequence ∷ []

abbrev pub sequences_by : ℕ → Message → List (Option FlowSequence)
sequences_by channel (control cells) = []
sequences_by channel (packet own bytes carried) = cond (eqb own channel) (if_given carried) []

-- "the last sequence carried": that of the last data message of the channel that has one
abbrev pub base_before : ℕ → List Numbered → Option FlowSequence
base_before channel before = last_or None (stated_in (sequences_by channel) before)

-- ---- the verdict

-- a data message of the channel obeys, by its flow and its base; nothing is asked of another message
abbrev pub ObeysUnder : ℕ → Flow → (base : Option FlowSequence) → Message → Type 0
ObeysUnder channel flow base (control cells) = Unit {0}
ObeysUnder channel flow base (packet own bytes carried) = own ≡ channel → Obeys flow base bytes carried

-- by what stood before it
abbrev pub ObeysAfter : ℕ → (before : List Numbered) → Message → Type 0
ObeysAfter channel before stated = ObeysUnder channel (flow_before channel before) (base_before channel before) stated

-- a message of a list, with those before it
pub data Stands : (before : List Numbered) → Numbered → List Numbered → Type 0 where
  here : {m : Numbered} {ms : List Numbered} → Stands [] m (m ∷ ms)
  later : {x m : Numbered} {before ms : List Numbered} → Stands before m ms → Stands (x ∷ before) m (x ∷ ms)

-- all messages of a list obey what is asked of each after those before it
abbrev pub AllObey : (Asked : List Numbered → Message → Type 0) → List Numbered → Type 0
AllObey Asked messages = (before : List Numbered) (m : Numbered) → Stands before m messages → Asked before m.message

-- a number of one that doesn't, and there is none of a lower number
pub record LeastBreach (Asked : List Numbered → Message → Type 0) (messages : List Numbered) (number : ℕ) : Type 0 where
  pub before : List Numbered
  pub breach : Numbered
  pub stands : Stands before breach messages
  pub named : breach.number ≡ number
  pub breaks : Asked before breach.message → ⊥
  pub least : (before : List Numbered) (m : Numbered) → Stands before m messages → (Asked before m.message → ⊥) → number ≤ m.number

-- "A channel passes exactly when all its data messages obey"
abbrev pub Passing : ℕ → List Numbered → Type 0
Passing channel messages = AllObey (ObeysAfter channel) messages

-- "report the first message that didn't, by record number"
abbrev pub Breached : ℕ → List Numbered → (number : ℕ) → Type 0
Breached channel messages number = LeastBreach (ObeysAfter channel) messages number

-- "A capture with fragments or shortened records, or refused with 25 or 26"
pub data Unclear (ports : Ports) : List Report → Type 0 where
  fragment : {original : ℕ} {frame : List ℕ} {reports : List Report} → kind_of ports original frame ≡ Kind.Fragment → Unclear ports (kept original frame ∷ reports)
  shortened : {original : ℕ} {frame : List ℕ} {reports : List Report} → kind_of ports original frame ≡ Kind.Shortened → Unclear ports (kept original frame ∷ reports)
  stopped : {number : ℕ} {reports : List Report} → Unclear ports (refused number ∷ reports)
  behind : {report : Report} {reports : List Report} → Unclear ports reports → Unclear ports (report ∷ reports)

-- what a finding says of a channel
abbrev pub Says : Ports → DatalinkId → List Report → ℕ → Finding → Type 0
Says ports id reports channel Finding.Passes = (Unclear ports reports → ⊥) × Passing channel (messages_of ports id reports)
Says ports id reports channel (Finding.Breach number) = (Unclear ports reports → ⊥) × Breached channel (messages_of ports id reports) number
Says ports id reports channel Finding.Undecided = Unclear ports reports
