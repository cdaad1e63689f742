-- docs/STATION.md: the answers, as texts one behind another.
use Rattle.quantity.specs.declared.refusal.Refusal.{Refusal}
use Rattle.std.specs.Prelude.{ℕ, List, [], ◌∷◌, take, Result, Ok, Err}
use Rattle.text.specs.Strings.{bytes_text}
use Rattle.message_words.specs.Phrases.{refused_texts}
use Rattle.radio_end_state.specs.declared.answer.Answer.{Answer}

-- `bad line`
abbrev pub BAD-LINE : List ℕ
BAD-LINE = 98 ∷ 97 ∷ 100 ∷ 32 ∷ 108 ∷ 105 ∷ 110 ∷ 101 ∷ []

-- `started`
abbrev pub STARTED : List ℕ
STARTED = 115 ∷ 116 ∷ 97 ∷ 114 ∷ 116 ∷ 101 ∷ 100 ∷ []

-- `answer `
abbrev pub ANSWER : List ℕ
ANSWER = 97 ∷ 110 ∷ 115 ∷ 119 ∷ 101 ∷ 114 ∷ 32 ∷ []

-- `unasked `
abbrev pub UNASKED : List ℕ
UNASKED = 117 ∷ 110 ∷ 97 ∷ 115 ∷ 107 ∷ 101 ∷ 100 ∷ 32 ∷ []

-- `tell `
abbrev pub TELL : List ℕ
TELL = 116 ∷ 101 ∷ 108 ∷ 108 ∷ 32 ∷ []

-- `heard`
abbrev pub HEARD : List ℕ
HEARD = 104 ∷ 101 ∷ 97 ∷ 114 ∷ 100 ∷ []

-- `unchanged`
abbrev pub UNCHANGED : List ℕ
UNCHANGED = 117 ∷ 110 ∷ 99 ∷ 104 ∷ 97 ∷ 110 ∷ 103 ∷ 101 ∷ 100 ∷ []

-- `kept`
abbrev pub KEPT : List ℕ
KEPT = 107 ∷ 101 ∷ 112 ∷ 116 ∷ []

-- a message behind the word of the line that asked for it, or behind `unasked`; the line's word where there is none. The message stands at the start of the output
abbrev pub answer_texts : (asked quiet : List ℕ) → Result Answer Refusal → List ℕ → List (List ℕ)
answer_texts asked quiet (Ok (Answer.Answered count)) out = asked ∷ (bytes_text (take count.0 out) ∷ [])
answer_texts asked quiet (Ok (Answer.Unasked count)) out = UNASKED ∷ (bytes_text (take count.0 out) ∷ [])
answer_texts asked quiet (Ok Answer.Quiet) out = quiet ∷ []
answer_texts asked quiet (Err refusal) out = refused_texts refusal
