-- What the judge keeps, in lent words of 64 bits, and what a record makes of them. A word that isn't there reads as 0 and takes nothing.
use Rattle.meaning.specs.declared.message.Window.{Window}
use Rattle.quantity.specs.declared.count.FlowSequence.{FlowSequence}
use Rattle.std.specs.Prelude.{Bool, cond, List, [], ◌∷◌, ℕ, zero, suc, ◌+◌, ◌*◌, eqb, get_or, set, Option}
use Rattle.quantity.specs.declared.count.DatalinkId.{DatalinkId}
use Rattle.quantity.specs.declared.count.ByteCount.{ByteCount}
use Rattle.quantity.specs.Limits.{CHANNEL-IDS}
use Rattle.records.specs.Files.{Report, kept, refused}
use Rattle.ethernet.specs.declared.Ports.{Ports}
use Rattle.conduct_rules.specs.Rules.{obeys_of}
use Rattle.conduct_rules.specs.Kept.{flow_word, flow_in, base_after, base_in, breach_after}
use Rattle.conduct.specs.declared.verdict.Finding.{Finding}
use Rattle.conduct.specs.Outcomes.{control, packet, Outcome, nothing, undecides, message, outcome_of}
use Rattle.conduct.specs.Account.{window_in}

-- ---- where each stands: whether the capture is undecided; then for each Channel ID its first breach, its flow and its base
abbrev pub UNDECIDED : ℕ
UNDECIDED = 0

abbrev pub BREACH : ℕ
BREACH = 1

abbrev pub FLOW : ℕ
FLOW = 2

abbrev pub BASE : ℕ
BASE = 3

abbrev pub EACH : ℕ
EACH = 3

abbrev pub WORDS : ℕ
WORDS = 766

abbrev pub word : List ℕ → ℕ → ℕ
word words place = get_or words place 0

-- ---- what a record makes of the words

-- a radio control message: the flow of the first so many Channel IDs
unfoldable pub heard_up_to : ℕ → List (Option Window) → List ℕ → List ℕ
heard_up_to zero cells words = words
heard_up_to (suc channel) cells words = set (heard_up_to channel cells words) (FLOW + EACH * channel) (flow_word (window_in channel cells))

-- whether a data message obeys, by what the words hold of its channel
abbrev pub obeyed_in : List ℕ → (channel : ℕ) → ByteCount → Option FlowSequence → Bool
obeyed_in words channel bytes carried = obeys_of (flow_in (word words (FLOW + EACH * channel))) (base_in (word words (BASE + EACH * channel))) bytes carried

-- a data message: its breach, then its base
unfoldable pub packet_judged : (number channel : ℕ) → ByteCount → Option FlowSequence → List ℕ → List ℕ
packet_judged number channel bytes carried words =
    set (set words (BREACH + EACH * channel) (breach_after (word words (BREACH + EACH * channel)) number (obeyed_in words channel bytes carried)))
    (BASE + EACH * channel)
    (base_after (word words (BASE + EACH * channel)) carried)

abbrev pub undecided : List ℕ → List ℕ
undecided words = set words UNDECIDED 1

abbrev pub judged_by : (number : ℕ) → Outcome → List ℕ → List ℕ
judged_by number nothing words = words
judged_by number undecides words = undecided words
judged_by number (message (control cells)) words = heard_up_to CHANNEL-IDS cells words
judged_by number (message (packet channel bytes carried)) words = packet_judged number channel bytes carried words

-- ---- what is found of a channel
abbrev pub finding_by : (undecided breach : ℕ) → Finding
finding_by undecided breach = cond (eqb undecided 0) (cond (eqb breach 0) Finding.Passes (Finding.Breach breach)) Finding.Undecided

abbrev pub finding_of : List ℕ → (channel : ℕ) → Finding
finding_of words channel = finding_by (word words UNDECIDED) (word words (BREACH + EACH * channel))

-- ---- all records of a capture, one after another, by what `judge` and `undecide` leave
unfoldable pub judged_all : Ports → DatalinkId → (number : ℕ) → List Report → List ℕ → List ℕ
judged_all ports id number [] words = words
judged_all ports id number (kept original frame ∷ reports) words = judged_all ports id (suc number) reports (judged_by number (outcome_of ports id original frame) words)
judged_all ports id number (refused refusal ∷ reports) words = judged_all ports id number reports (undecided words)
