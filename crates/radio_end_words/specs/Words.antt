-- The state of the radio's end in lent words of 64 bits: its own words, then as many for each channel, in configuration order. The words are named as in
-- src/layout.rt, with `-` for `_`. A state has one form in words: what is absent is written as zeros.
use Rattle.quantity.specs.declared.count.FlowSequence.{FlowSequence}
use Rattle.std.specs.Prelude.{ℕ, ◌+◌, ◌*◌, ◌^◌, ◌≤◌, ◌<◌, Bool, true, cond, ◌&&◌, List, [], ◌∷◌, ◌++◌, ◌≡◌, length, take, drop, get_or, eqb, leb, Option, Some, None}
use Rattle.facts.specs.Tables.{tabulate}
use Rattle.lent_messages.specs.Layout.{ABSENT, GIVEN}
use Rattle.lent_messages.specs.Stated.{instance_stated, context_stated, instance_of, context_of}
use Rattle.radio_end_state.specs.declared.channel.Channel.{Channel}
use Rattle.radio_end_state.specs.State.{State, blank_state}
use Rattle.radio_end_state.specs.Limits.{up_to, state_fits}

-- ---- the radio's own words
abbrev pub HEAD : ℕ
HEAD = 8

abbrev pub DATALINK-WORD : ℕ
DATALINK-WORD = 0

abbrev pub COUNT-WORD : ℕ
COUNT-WORD = 1

abbrev pub INSTANCE-TAG : ℕ
INSTANCE-TAG = 2

abbrev pub INSTANCE-VALUE : ℕ
INSTANCE-VALUE = 3

abbrev pub INSTANCE-LENGTH : ℕ
INSTANCE-LENGTH = 4

abbrev pub CONTEXT-TAG : ℕ
CONTEXT-TAG = 5

abbrev pub CONTEXT-VALUE : ℕ
CONTEXT-VALUE = 6

abbrev pub CONTEXT-LENGTH : ℕ
CONTEXT-LENGTH = 7

-- ---- a channel's words
abbrev pub SLOT : ℕ
SLOT = 8

abbrev pub ID : ℕ
ID = 0

abbrev pub KIND : ℕ
KIND = 1

abbrev pub WATERMARK : ℕ
WATERMARK = 2

abbrev pub THROUGHPUT : ℕ
THROUGHPUT = 3

abbrev pub STATUS : ℕ
STATUS = 4

abbrev pub QUEUED : ℕ
QUEUED = 5

abbrev pub HIGHEST-TAG : ℕ
HIGHEST-TAG = 6

abbrev pub HIGHEST-VALUE : ℕ
HIGHEST-VALUE = 7

-- kinds of a channel; tags of the highest sequence
abbrev pub PLAIN : ℕ
PLAIN = 0

abbrev pub CONTROLLED : ℕ
CONTROLLED = 1

abbrev pub UNHEARD : ℕ
UNHEARD = 0

abbrev pub HEARD : ℕ
HEARD = 1

-- ---- how many words, which word, and the words of the channel at an index
abbrev pub words_for : ℕ → ℕ
words_for count = HEAD + SLOT * count

abbrev pub word : List ℕ → ℕ → ℕ
word words k = get_or words k 0

abbrev pub slot_start : ℕ → ℕ
slot_start index = HEAD + SLOT * index

unfoldable pub slot : List ℕ → ℕ → List ℕ
slot words index = take SLOT (drop (slot_start index) words)

-- ---- what a slot's words say
unfoldable pub highest_of : (tag value : ℕ) → Option FlowSequence
highest_of tag value = cond (eqb tag UNHEARD) None (Some (record { 0 = value }))

unfoldable pub channel_in : List ℕ → Channel
channel_in w = record {
  setting = record { id = word w ID; controlled = eqb (word w KIND) CONTROLLED; watermark = record { 0 = word w WATERMARK }; throughput = record { 0 = word w THROUGHPUT } };
  status = word w STATUS;
  queued = record { 0 = word w QUEUED };
  highest = highest_of (word w HIGHEST-TAG) (word w HIGHEST-VALUE);
}

-- ---- the state, of as many channels as the words count
unfoldable pub state_of : List ℕ → State
state_of words = record {
  datalink = record { 0 = word words DATALINK-WORD };
  channels = tabulate (word words COUNT-WORD) (λ index. channel_in (slot words index));
  instance = instance_of (word words INSTANCE-TAG) (word words INSTANCE-VALUE) (word words INSTANCE-LENGTH);
  context = context_of (word words CONTEXT-TAG) (word words CONTEXT-VALUE) (word words CONTEXT-LENGTH);
}

-- ---- words that say something: tags that there are, and zeros where nothing is said
abbrev pub highest_spelled : (tag value : ℕ) → Bool
highest_spelled tag value = cond (eqb tag UNHEARD) (eqb value 0) (eqb tag HEARD)

unfoldable pub spelled : List ℕ → Bool
spelled w = leb (word w KIND) CONTROLLED && highest_spelled (word w HIGHEST-TAG) (word w HIGHEST-VALUE)

unfoldable pub name_spelled : (tag value size : ℕ) → Bool
name_spelled tag value size = cond (eqb tag ABSENT) (eqb value 0 && eqb size 0) (eqb tag GIVEN)

unfoldable pub head_spelled : List ℕ → Bool
head_spelled words =
    name_spelled (word words INSTANCE-TAG) (word words INSTANCE-VALUE) (word words INSTANCE-LENGTH)
    && name_spelled (word words CONTEXT-TAG) (word words CONTEXT-VALUE) (word words CONTEXT-LENGTH)

unfoldable pub all_spelled : List ℕ → ℕ → Bool
all_spelled words count = up_to (λ index. spelled (slot words index)) count

unfoldable pub readable : List ℕ → Bool
readable words = eqb (length words) (words_for (word words COUNT-WORD)) && (head_spelled words && all_spelled words (word words COUNT-WORD))

-- WHAT WORDS STAND FOR: those that say nothing stand for a state with no channel, which every call refuses by 19
unfoldable pub state_in : List ℕ → State
state_in words = cond (readable words) (state_of words) blank_state

-- ---- a state as words
abbrev pub highest_tag : Option FlowSequence → ℕ
highest_tag None = UNHEARD
highest_tag (Some sequence) = HEARD

abbrev pub highest_value : Option FlowSequence → ℕ
highest_value None = 0
highest_value (Some sequence) = sequence.0

unfoldable pub channel_words : Channel → List ℕ
channel_words c =
    c.setting.id ∷ cond c.setting.controlled CONTROLLED PLAIN ∷ c.setting.watermark.0 ∷ c.setting.throughput.0 ∷ c.status ∷ c.queued.0
    ∷ highest_tag c.highest ∷ highest_value c.highest ∷ []

unfoldable pub slots_of : List Channel → List ℕ
slots_of [] = []
slots_of (c ∷ cs) = channel_words c ++ slots_of cs

unfoldable pub head_words : State → List ℕ
head_words s =
    s.datalink.0 ∷ length s.channels ∷ (instance_stated s.instance).tag ∷ (instance_stated s.instance).first ∷ (instance_stated s.instance).second
    ∷ (context_stated s.context).tag ∷ (context_stated s.context).first ∷ (context_stated s.context).second ∷ []

unfoldable pub state_words : State → List ℕ
state_words s = head_words s ++ slots_of s.channels

-- ---- what a channel is loaded from, and where one is found
pub record Loadable (w : List ℕ) : Type 0 where
  pub long : length w ≡ SLOT
  pub id : word w ID < 256
  pub status : word w STATUS < 256
  pub highest : word w HIGHEST-VALUE < 2 ^ 32

pub record Placed (words : List ℕ) (index : ℕ) : Type 0 where
  pub fits : state_fits (state_in words) ≡ true
  pub inside : index < length (state_in words).channels

-- what has been tested before the pass over the channels
pub record Counted (words : List ℕ) (count : ℕ) : Type 0 where
  pub long : length words ≡ words_for count
  pub count_is : count ≡ word words COUNT-WORD
  pub few : count ≤ 64
