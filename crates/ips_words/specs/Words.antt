-- The state in lent words of 64 bits: the endpoint's own words, then as many for each configured channel, in configuration order. The words are named as in
-- src/layout.rt, with `-` for `_`.
use Rattle.quantity.specs.declared.count.LinkInstanceId.{LinkInstanceId}
use Rattle.meaning.specs.declared.message.ContextBytes.{ContextBytes}
use Rattle.std.specs.Prelude.{ℕ, zero, suc, ◌+◌, ◌*◌, ◌^◌, ◌≤◌, ◌<◌, Bool, true, cond, ◌&&◌, List, [], ◌∷◌, ◌++◌, ◌≡◌, length, take, drop, set, get_or, eqb, leb, ltb, Option, Some, None}
use Rattle.facts.specs.Tables.{tabulate}
use Rattle.quantity.specs.Limits.{MOST-WAITING}
use Rattle.store.specs.declared.queue.Entry.{Entry}
use Rattle.store.specs.declared.queue.Queue.{Queue}
use Rattle.store.specs.Waiting.{no_entry}
use Rattle.flow.specs.declared.Flow.{Flow}
use Rattle.ips_channel.specs.declared.state.Channel.{Channel}
use Rattle.pacer.specs.declared.Pacer.{Pacer}
use Rattle.ips_state.specs.State.{State, blank_state}

-- ---- the endpoint's own words
abbrev pub HEAD : ℕ
HEAD = 14

abbrev pub DATALINK-WORD : ℕ
DATALINK-WORD = 0

abbrev pub COUNT-WORD : ℕ
COUNT-WORD = 1

abbrev pub INSTANCE-TAG : ℕ
INSTANCE-TAG = 2

abbrev pub INSTANCE-VALUE : ℕ
INSTANCE-VALUE = 3

abbrev pub INSTANCE-LENGTH : ℕ
INSTANCE-LENGTH = 4

abbrev pub CONTEXT-TAG : ℕ
CONTEXT-TAG = 5

abbrev pub CONTEXT-VALUE : ℕ
CONTEXT-VALUE = 6

abbrev pub CONTEXT-LENGTH : ℕ
CONTEXT-LENGTH = 7

-- the pacer's: HelloTime and silence limit, its clock, the last query due, the last accepted radio control message
abbrev pub HELLO-WORD : ℕ
HELLO-WORD = 8

abbrev pub LIMIT-WORD : ℕ
LIMIT-WORD = 9

abbrev pub CLOCK-WORD : ℕ
CLOCK-WORD = 10

abbrev pub DUE-WORD : ℕ
DUE-WORD = 11

abbrev pub HEARD-WORD : ℕ
HEARD-WORD = 12

-- the datalink's setting of the statuses 8 to 15
abbrev pub CODES-WORD : ℕ
CODES-WORD = 13

-- ---- a channel's words: those before what waits, what one waiting packet takes, all of them
abbrev pub FIXED : ℕ
FIXED = 10

abbrev pub ENTRY : ℕ
ENTRY = 2

abbrev pub SLOT : ℕ
SLOT = FIXED + ENTRY * MOST-WAITING

abbrev pub ID : ℕ
ID = 0

abbrev pub KIND : ℕ
KIND = 1

abbrev pub SIZE : ℕ
SIZE = 2

abbrev pub STATUS-TAG : ℕ
STATUS-TAG = 3

abbrev pub STATUS-VALUE : ℕ
STATUS-VALUE = 4

abbrev pub FLOW-TAG : ℕ
FLOW-TAG = 5

abbrev pub FLOW-WINDOW : ℕ
FLOW-WINDOW = 6

abbrev pub SEQUENCE : ℕ
SEQUENCE = 7

abbrev pub LATEST : ℕ
LATEST = 8

abbrev pub WAITING : ℕ
WAITING = 9

abbrev pub EXPIRY : ℕ
EXPIRY = 1

-- kinds of a channel; tags of what may be absent; tags of a flow state
abbrev pub PLAIN : ℕ
PLAIN = 0

abbrev pub CONTROLLED : ℕ
CONTROLLED = 1

abbrev pub ABSENT : ℕ
ABSENT = 0

abbrev pub GIVEN : ℕ
GIVEN = 1

abbrev pub FREE : ℕ
FREE = 0

abbrev pub NO-WINDOW : ℕ
NO-WINDOW = 1

abbrev pub IN-FORCE : ℕ
IN-FORCE = 2

-- ---- how many words, which word, and the words of the channel at an index
abbrev pub words_for : ℕ → ℕ
words_for count = HEAD + SLOT * count

abbrev pub word : List ℕ → ℕ → ℕ
word words k = get_or words k 0

abbrev pub slot_start : ℕ → ℕ
slot_start index = HEAD + SLOT * index

unfoldable pub slot : List ℕ → ℕ → List ℕ
slot words index = take SLOT (drop (slot_start index) words)

-- ---- what words say: an enum is a tag, and the words of what it holds
unfoldable pub status_of : (tag value : ℕ) → Option ℕ
status_of tag value = cond (eqb tag ABSENT) None (Some value)

unfoldable pub flow_of : (tag window : ℕ) → Flow
flow_of tag window = cond (eqb tag FREE) Flow.Free (cond (eqb tag NO-WINDOW) Flow.NoWindow (Flow.InForce (record { 0 = window })))

-- what is stated with a length of its own
abbrev pub given_of : {A : Type 0} (tag : ℕ) → A → (size : ℕ) → Option (A × ℕ)
given_of tag stated size = cond (eqb tag ABSENT) None (Some (stated, size))

unfoldable pub instance_of : (tag value size : ℕ) → Option (LinkInstanceId × ℕ)
instance_of tag value size = given_of tag (record { 0 = value }) size

unfoldable pub context_of : (tag value size : ℕ) → Option (ContextBytes × ℕ)
context_of tag value size = given_of tag (record { 0 = value }) size

-- ---- what waits: words behind the waiting packets may hold anything, the queue has zeros there
abbrev pub entry_at : List ℕ → ℕ → Entry
entry_at w k = record { length = record { 0 = word w (FIXED + ENTRY * k) }; expiry = word w (FIXED + ENTRY * k + EXPIRY) }

unfoldable pub entries_in : List ℕ → ℕ → List Entry
entries_in w count = tabulate MOST-WAITING (λ k. cond (ltb k count) (entry_at w k) no_entry)

unfoldable pub queue_in : List ℕ → Queue
queue_in w = record { entries = entries_in w (word w WAITING); count = word w WAITING }

-- THE CHANNEL THAT A SLOT'S WORDS SAY
unfoldable pub channel_in : List ℕ → Channel
channel_in w = record {
  setting = record { id = word w ID; controlled = eqb (word w KIND) CONTROLLED; size = record { 0 = word w SIZE } };
  status = status_of (word w STATUS-TAG) (word w STATUS-VALUE);
  flow = flow_of (word w FLOW-TAG) (word w FLOW-WINDOW);
  sequence = record { 0 = word w SEQUENCE };
  latest = word w LATEST;
  queue = queue_in w;
}

abbrev pub pacer_in : List ℕ → Pacer
pacer_in words = record { hello = word words HELLO-WORD; limit = word words LIMIT-WORD; clock = word words CLOCK-WORD; due = word words DUE-WORD; heard = word words HEARD-WORD }

-- ---- the state, of as many channels as the words count
unfoldable pub state_of : List ℕ → State
state_of words = record {
  datalink = record { id = record { 0 = word words DATALINK-WORD }; codes = record { 0 = word words CODES-WORD } };
  channels = tabulate (word words COUNT-WORD) (λ index. channel_in (slot words index));
  instance = instance_of (word words INSTANCE-TAG) (word words INSTANCE-VALUE) (word words INSTANCE-LENGTH);
  context = context_of (word words CONTEXT-TAG) (word words CONTEXT-VALUE) (word words CONTEXT-LENGTH);
  pacer = pacer_in words;
}

-- ---- words that say something: tags that there are, and numbers no wider than what they are numbers of
unfoldable pub spelled : List ℕ → Bool
spelled w =
    leb (word w KIND) CONTROLLED
    && (leb (word w STATUS-TAG) GIVEN
    && (ltb (word w STATUS-VALUE) 256 && (leb (word w FLOW-TAG) IN-FORCE && (ltb (word w FLOW-WINDOW) (2 ^ 32) && ltb (word w SEQUENCE) (2 ^ 32)))))

unfoldable pub all_spelled : List ℕ → ℕ → Bool
all_spelled words zero = true
all_spelled words (suc n) = all_spelled words n && spelled (slot words n)

unfoldable pub head_spelled : List ℕ → Bool
head_spelled words =
    ltb (word words DATALINK-WORD) 256 && (leb (word words INSTANCE-TAG) GIVEN && (leb (word words CONTEXT-TAG) GIVEN && ltb (word words CODES-WORD) 256))

unfoldable pub readable : List ℕ → Bool
readable words = eqb (length words) (words_for (word words COUNT-WORD)) && (head_spelled words && all_spelled words (word words COUNT-WORD))

-- WHAT WORDS STAND FOR: those that say nothing stand for a state with no channel, which every call refuses by 19
unfoldable pub state_in : List ℕ → State
state_in words = cond (readable words) (state_of words) blank_state

-- ---- a channel as words, and the words with one channel replaced
abbrev pub status_tag : Option ℕ → ℕ
status_tag None = ABSENT
status_tag (Some value) = GIVEN

abbrev pub status_value : Option ℕ → ℕ
status_value None = 0
status_value (Some value) = value

abbrev pub flow_tag : Flow → ℕ
flow_tag Flow.Free = FREE
flow_tag Flow.NoWindow = NO-WINDOW
flow_tag (Flow.InForce window) = IN-FORCE

abbrev pub flow_window : Flow → ℕ
flow_window Flow.Free = 0
flow_window Flow.NoWindow = 0
flow_window (Flow.InForce window) = window.0

unfoldable pub entry_words : List Entry → List ℕ
entry_words [] = []
entry_words (e ∷ es) = e.length.0 ∷ e.expiry ∷ entry_words es

abbrev pub fixed_words : Channel → List ℕ
fixed_words c =
    c.setting.id ∷ cond c.setting.controlled CONTROLLED PLAIN ∷ c.setting.size.0 ∷ status_tag c.status ∷ status_value c.status ∷ flow_tag c.flow
    ∷ flow_window c.flow ∷ c.sequence.0 ∷ c.latest ∷ c.queue.count ∷ []

unfoldable pub channel_words : Channel → List ℕ
channel_words c = fixed_words c ++ entry_words c.queue.entries

unfoldable pub put_slot : List ℕ → ℕ → List ℕ → List ℕ
put_slot words index part = take (slot_start index) words ++ (part ++ drop (slot_start index + SLOT) words)

unfoldable pub put_channel : List ℕ → ℕ → Channel → List ℕ
put_channel words index c = put_slot words index (channel_words c)

-- ---- the words with the pacer's three times written; its two waits stand
unfoldable pub put_pacer : List ℕ → Pacer → List ℕ
put_pacer words p = set (set (set words CLOCK-WORD p.clock) DUE-WORD p.due) HEARD-WORD p.heard

-- ---- what a channel is loaded from
pub record Loadable (w : List ℕ) : Type 0 where
  pub long : length w ≡ SLOT
  pub says : spelled w ≡ true
  pub id : word w ID < 256
  pub few : word w WAITING ≤ MOST-WAITING

-- ---- a channel that reads back: 32 places with zeros behind what waits, numbers no wider than their words are read
pub record Tidy (queue : Queue) : Type 0 where
  pub places : length queue.entries ≡ MOST-WAITING
  pub behind : (k : ℕ) → queue.count ≤ k → get_or queue.entries k no_entry ≡ no_entry

pub record Narrow (c : Channel) : Type 0 where
  pub tidy : Tidy c.queue
  pub status : status_value c.status < 256
  pub window : flow_window c.flow < 2 ^ 32
  pub sequence : c.sequence.0 < 2 ^ 32
