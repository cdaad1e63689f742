-- A fresh start of the radio's end on words: what the words of a configuration say, and the words that a fresh start leaves. The words are named as in
-- src/layout.rt, with `-` for `_`.
use Rattle.quantity.specs.declared.refusal.Refusal.{Refusal}
use Rattle.std.specs.Prelude.{ℕ, ◌+◌, ◌*◌, ◌≤◌, ◌<◌, Bool, cond, ◌&&◌, List, [], ◌∷◌, ◌≡◌, length, eqb, leb, Result, Ok, Err}
use Rattle.facts.specs.Tables.{tabulate}
use Rattle.quantity.specs.Limits.{MOST-CHANNELS, RESERVED-CHANNEL}
use Rattle.quantity.specs.Refusals.{OUTSIDE-LIMITS, LARGE-ALLOWANCE}
use Rattle.lent_messages.specs.Layout.{ABSENT}
use Rattle.radio_end_state.specs.declared.channel.Setting.{Setting}
use Rattle.radio_end_state.specs.State.{Configuration, fresh_state}
use Rattle.radio_end_state.specs.Limits.{up_to, ids_fit, settings_fit, setting_ids, allowances_fit, configuration_fits}
use Rattle.radio_end_words.specs.Words.{CONTROLLED, word, words_for, state_words}

-- ---- a configuration in words: the Datalink ID, the count of channels, then for each channel its ID, its kind, its watermark and its throughput per period
abbrev pub CONFIGURATION-HEAD : ℕ
CONFIGURATION-HEAD = 2

abbrev pub CONFIGURATION-SLOT : ℕ
CONFIGURATION-SLOT = 4

abbrev pub CONFIGURED-DATALINK : ℕ
CONFIGURED-DATALINK = 0

abbrev pub CONFIGURED-COUNT : ℕ
CONFIGURED-COUNT = 1

abbrev pub START-ID : ℕ
START-ID = 0

abbrev pub START-KIND : ℕ
START-KIND = 1

abbrev pub START-WATERMARK : ℕ
START-WATERMARK = 2

abbrev pub START-THROUGHPUT : ℕ
START-THROUGHPUT = 3

-- how many words, and a word of the channel at an index
abbrev pub configuration_length : ℕ → ℕ
configuration_length count = CONFIGURATION-HEAD + CONFIGURATION-SLOT * count

abbrev pub start_word : List ℕ → (index k : ℕ) → ℕ
start_word w index k = word w (configuration_length index + k)

-- ---- one channel's setting, as its words say
abbrev pub setting_with : (id kind watermark throughput : ℕ) → Setting
setting_with id kind watermark throughput = record { id = id; controlled = eqb kind CONTROLLED; watermark = record { 0 = watermark }; throughput = record { 0 = throughput } }

unfoldable pub setting_in : List ℕ → ℕ → Setting
setting_in w index = setting_with (start_word w index START-ID) (start_word w index START-KIND) (start_word w index START-WATERMARK) (start_word w index START-THROUGHPUT)

unfoldable pub settings_of : List ℕ → ℕ → List Setting
settings_of w count = tabulate count (setting_in w)

unfoldable pub configuration_of : List ℕ → Configuration
configuration_of w = record { datalink = record { 0 = word w CONFIGURED-DATALINK }; settings = settings_of w (word w CONFIGURED-COUNT) }

-- ---- words that say something: as many as the count asks, and kinds that there are
unfoldable pub kinds_spelled : List ℕ → ℕ → Bool
kinds_spelled w count = up_to (λ index. leb (start_word w index START-KIND) CONTROLLED) count

unfoldable pub configuration_readable : List ℕ → Bool
configuration_readable w = eqb (length w) (configuration_length (word w CONFIGURED-COUNT)) && kinds_spelled w (word w CONFIGURED-COUNT)

-- no channel at all
unfoldable pub blank_configuration : Configuration
blank_configuration = record { datalink = record { 0 = 0 }; settings = [] }

-- WHAT THE WORDS OF A CONFIGURATION STAND FOR: those that say nothing stand for one with no channel, which a start refuses by 19
unfoldable pub configuration_in : List ℕ → Configuration
configuration_in w = cond (configuration_readable w) (configuration_of w) blank_configuration

-- ---- the call: 19, and for words that are not as many as the state's too
unfoldable pub starts_in : (configuration words : List ℕ) → Bool
starts_in configuration words = configuration_fits (configuration_in configuration) && eqb (length words) (words_for (length (configuration_in configuration).settings))

-- and document 02, §3: "23 for watermark or throughput above 2^31 - 1, tested in configuration after 19"
abbrev pub begins_in : (configuration words : List ℕ) → Bool
begins_in configuration words = starts_in configuration words && allowances_fit (configuration_in configuration).settings

abbrev pub not_started : (number : ℕ) → Result (Unit {0}) Refusal
not_started number = Err (record { number = number; place = 0 })

-- THE CONTRACT OF A START ON WORDS: a refusal "changes no state and no lent byte"
pub record StartedIn (configuration words : List ℕ) (answer : Result (Unit {0}) Refusal) (words' : List ℕ) : Type 0 where
  pub answer_is : answer ≡ cond (starts_in configuration words) (cond (allowances_fit (configuration_in configuration).settings) (Ok tt) (not_started LARGE-ALLOWANCE)) (not_started OUTSIDE-LIMITS)
  pub words_are : words' ≡ cond (begins_in configuration words) (state_words (fresh_state (configuration_in configuration))) words

-- ---- what the pass over the channels of a configuration gives
unfoldable pub walked : List ℕ → ℕ → Bool
walked w count = kinds_spelled w count && (settings_fit (settings_of w count) && ids_fit (setting_ids (settings_of w count)))

-- what has been tested before that pass
pub record Configured (w : List ℕ) (count : ℕ) : Type 0 where
  pub long : length w ≡ configuration_length count
  pub few : count ≤ MOST-CHANNELS

-- ---- what a fresh start is written from, and the radio's own words then
pub record Startable (w : List ℕ) (count : ℕ) : Type 0 where
  pub long : length w ≡ configuration_length count
  pub count_is : count ≡ word w CONFIGURED-COUNT
  pub few : count ≤ MOST-CHANNELS
  pub ids : (index : ℕ) → index < count → start_word w index START-ID < RESERVED-CHANNEL

abbrev pub fresh_head : (datalink count : ℕ) → List ℕ
fresh_head datalink count = datalink ∷ count ∷ ABSENT ∷ 0 ∷ 0 ∷ ABSENT ∷ 0 ∷ 0 ∷ []
