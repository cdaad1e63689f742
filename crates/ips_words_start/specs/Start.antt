-- A fresh start on words: what the words of a configuration say, and the words that a fresh start leaves. The words are named as in src/layout.rt, with `-` for
-- `_`.
use Rattle.quantity.specs.declared.refusal.Refusal.{Refusal}
use Rattle.std.specs.Prelude.{ℕ, zero, suc, ◌+◌, ◌*◌, ◌^◌, ◌≤◌, ◌<◌, Bool, true, cond, ◌&&◌, List, [], ◌∷◌, ◌++◌, map, ◌≡◌, length, replicate, eqb, leb, ltb, Result, Ok, Err, Option, None, Some}
use Rattle.facts.specs.Tables.{tabulate}
use Rattle.quantity.specs.Limits.{MOST-CHANNELS, RESERVED-CHANNEL}
use Rattle.quantity.specs.Refusals.{OUTSIDE-LIMITS, NO-WAIT}
use Rattle.meaning.specs.Kinds.{among}
use Rattle.ips_channel.specs.declared.state.Channel.{Channel}
use Rattle.ips_state.specs.State.{ChannelStart, Configuration, fresh_of, fresh_state, blank_configuration}
use Rattle.ips_state.specs.Limits.{setting_fits, starts_fit, start_ids, distinct, sizes, configuration_fits_under, configuration_fits, waits_fit}
use Rattle.ips_state.specs.Memory.{memory_fits}
use Rattle.ips_words.specs.Words.{CONTROLLED, ABSENT, word, words_for, channel_words}
use Rattle.quantity.specs.declared.count.ByteCount.{ByteCount}

-- ---- a configuration in words: the Datalink ID, the count of channels, HelloTime, silence limit, the setting of the statuses 8 to 15, then for each channel its ID,
-- its kind, its first sequence and the length of its store
abbrev pub CONFIGURATION-HEAD : ℕ
CONFIGURATION-HEAD = 5

abbrev pub CONFIGURATION-SLOT : ℕ
CONFIGURATION-SLOT = 4

abbrev pub CONFIGURED-DATALINK : ℕ
CONFIGURED-DATALINK = 0

abbrev pub CONFIGURED-COUNT : ℕ
CONFIGURED-COUNT = 1

abbrev pub CONFIGURED-HELLO : ℕ
CONFIGURED-HELLO = 2

abbrev pub CONFIGURED-LIMIT : ℕ
CONFIGURED-LIMIT = 3

abbrev pub CONFIGURED-CODES : ℕ
CONFIGURED-CODES = 4

abbrev pub START-ID : ℕ
START-ID = 0

abbrev pub START-KIND : ℕ
START-KIND = 1

abbrev pub START-FIRST : ℕ
START-FIRST = 2

abbrev pub START-SIZE : ℕ
START-SIZE = 3

-- how many words, and a word of the channel at an index
abbrev pub configuration_length : ℕ → ℕ
configuration_length count = CONFIGURATION-HEAD + CONFIGURATION-SLOT * count

abbrev pub start_word : List ℕ → (index k : ℕ) → ℕ
start_word w index k = word w (configuration_length index + k)

-- ---- how one channel starts, as its words say
abbrev pub start_with : (id kind first size : ℕ) → ChannelStart
start_with id kind first size = record { setting = record { id = id; controlled = eqb kind CONTROLLED; size = record { 0 = size } }; first = record { 0 = first } }

unfoldable pub start_in : List ℕ → ℕ → ChannelStart
start_in w index = start_with (start_word w index START-ID) (start_word w index START-KIND) (start_word w index START-FIRST) (start_word w index START-SIZE)

unfoldable pub starts_of : List ℕ → ℕ → List ChannelStart
starts_of w count = tabulate count (start_in w)

unfoldable pub configuration_of : List ℕ → Configuration
configuration_of w = record {
  datalink = record { id = record { 0 = word w CONFIGURED-DATALINK }; codes = record { 0 = word w CONFIGURED-CODES } };
  hello = word w CONFIGURED-HELLO;
  limit = word w CONFIGURED-LIMIT;
  starts = starts_of w (word w CONFIGURED-COUNT);
}

-- ---- words that say something: kinds that there are, and numbers no wider than what they are numbers of
abbrev pub start_spelled : (kind first : ℕ) → Bool
start_spelled kind first = leb kind CONTROLLED && ltb first (2 ^ 32)

unfoldable pub starts_spelled : List ℕ → ℕ → Bool
starts_spelled w zero = true
starts_spelled w (suc n) = starts_spelled w n && start_spelled (start_word w n START-KIND) (start_word w n START-FIRST)

unfoldable pub configuration_readable : List ℕ → Bool
configuration_readable w =
    eqb (length w) (configuration_length (word w CONFIGURED-COUNT))
    && (ltb (word w CONFIGURED-DATALINK) 256 && (ltb (word w CONFIGURED-CODES) 256 && starts_spelled w (word w CONFIGURED-COUNT)))

-- WHAT THE WORDS OF A CONFIGURATION STAND FOR: those that say nothing stand for one with no channel, which a start refuses by 19
unfoldable pub configuration_in : List ℕ → Configuration
configuration_in w = cond (configuration_readable w) (configuration_of w) blank_configuration

-- ---- the words of a fresh start: "A channel has a status (fresh: not reported)", no Link Instance and no Context; of the pacer "both waits first run from 0"
abbrev pub head_words : (datalink count hello limit codes : ℕ) → List ℕ
head_words datalink count hello limit codes = datalink ∷ count ∷ ABSENT ∷ 0 ∷ 0 ∷ ABSENT ∷ 0 ∷ 0 ∷ hello ∷ limit ∷ 0 ∷ 0 ∷ 0 ∷ codes ∷ []

unfoldable pub slots_of : List Channel → List ℕ
slots_of [] = []
slots_of (c ∷ cs) = channel_words c ++ slots_of cs

unfoldable pub fresh_words : Configuration → List ℕ
fresh_words k = head_words k.datalink.id.0 (length k.starts) k.hello k.limit k.datalink.codes.0 ++ slots_of (map fresh_of k.starts)

-- ---- the call: 19, "a lent memory whose length isn't the sum of the stores" and words that are not as many as the state's too
unfoldable pub starts_in_under : (most : ℕ) (configuration words memory : List ℕ) → Bool
starts_in_under most configuration words memory =
    configuration_fits_under most (configuration_in configuration)
    && (memory_fits (fresh_state (configuration_in configuration)) memory && eqb (length words) (words_for (length (configuration_in configuration).starts)))

abbrev pub starts_in : (configuration words memory : List ℕ) → Bool
starts_in configuration words memory = starts_in_under MOST-CHANNELS configuration words memory

-- and document 02, §1: "22, HelloTime or silence limit of 0, tested last in configuration"
abbrev pub begins_in : (configuration words memory : List ℕ) → Bool
begins_in configuration words memory = starts_in configuration words memory && waits_fit (configuration_in configuration)

abbrev pub not_started : (number : ℕ) → Result (Unit {0}) Refusal
not_started number = Err (record { number = number; place = 0 })

-- THE CONTRACT OF A START ON WORDS: "A fresh start fills each store with zeros"; a refusal "changes no state and no lent byte"
pub record StartedIn (configuration words memory : List ℕ) (answer : Result (Unit {0}) Refusal) (words' memory' : List ℕ) : Type 0 where
  pub answer_is : answer ≡ cond (starts_in configuration words memory) (cond (waits_fit (configuration_in configuration)) (Ok tt) (not_started NO-WAIT)) (not_started OUTSIDE-LIMITS)
  pub words_are : words' ≡ cond (begins_in configuration words memory) (fresh_words (configuration_in configuration)) words
  pub memory_is : memory' ≡ cond (begins_in configuration words memory) (replicate (length memory) 0) memory

-- ---- what the pass over a configuration gives: whether it is within the limits, and "the sum of the stores"
abbrev pub unfit : Option ByteCount
unfit = None

abbrev pub start_fits_of : (id kind first size : ℕ) → Bool
start_fits_of id kind first size = start_spelled kind first && setting_fits (start_with id kind first size).setting

unfoldable pub judged_by : Bool → List ChannelStart → Option ByteCount
judged_by fits starts = cond fits (Some (record { 0 = sizes (map fresh_of starts) })) unfit

unfoldable pub together_fit : List ChannelStart → Bool
together_fit starts = starts_fit starts && (distinct (start_ids starts) && among 0 (start_ids starts))

unfoldable pub walked : List ℕ → ℕ → Option ByteCount
walked w count = judged_by (starts_spelled w count && together_fit (starts_of w count)) (starts_of w count)

unfoldable pub judged_of : List ℕ → Option ByteCount
judged_of w = judged_by (configuration_fits (configuration_in w)) (configuration_in w).starts

-- ---- what a fresh start is written from
pub record Startable (w : List ℕ) (count : ℕ) : Type 0 where
  pub long : length w ≡ configuration_length count
  pub few : count ≤ MOST-CHANNELS
  pub ids : (index : ℕ) → index < count → start_word w index START-ID < RESERVED-CHANNEL
  pub firsts : (index : ℕ) → index < count → start_word w index START-FIRST < 2 ^ 32
