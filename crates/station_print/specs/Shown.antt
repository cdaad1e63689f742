-- docs/STATION.md: "`show CHANNEL` answered `channel CHANNEL STATUS WINDOW HIGHEST QUEUED` (WINDOW `-` on a plain channel, `none` before a sequence was heard; HIGHEST
-- `-` before)".
use Rattle.quantity.specs.declared.count.FlowSequence.{FlowSequence}
use Rattle.std.specs.Prelude.{ℕ, List, [], ◌∷◌, ◌++◌, Option, Some, None}
use Rattle.meaning.specs.declared.message.Window.{Window}
use Rattle.radio_end_state.specs.declared.channel.Channel.{Channel}
use Rattle.radio_end_state.specs.Channel.{window_now}
use Rattle.message_words.specs.Phrases.{SPACE, one_number}

-- `channel `
abbrev pub CHANNEL : List ℕ
CHANNEL = 99 ∷ 104 ∷ 97 ∷ 110 ∷ 110 ∷ 101 ∷ 108 ∷ 32 ∷ []

-- ` -`
abbrev pub ABSENT : List ℕ
ABSENT = 32 ∷ 45 ∷ []

-- ` none`
abbrev pub NONE : List ℕ
NONE = 32 ∷ 110 ∷ 111 ∷ 110 ∷ 101 ∷ []

abbrev pub window_texts : Option Window → List (List ℕ)
window_texts None = ABSENT ∷ []
window_texts (Some Window.Empty) = NONE ∷ []
window_texts (Some (Window.Given window)) = one_number SPACE window.0

abbrev pub highest_texts : Option FlowSequence → List (List ℕ)
highest_texts None = ABSENT ∷ []
highest_texts (Some sequence) = one_number SPACE sequence.0

unfoldable pub channel_texts : Channel → List (List ℕ)
channel_texts c =
    one_number CHANNEL c.setting.id ++ (one_number SPACE c.status ++ (window_texts (window_now c) ++ (highest_texts c.highest ++ one_number SPACE c.queued.0)))
