-- docs/SESSION.md, "About messages": the answer to a line, as texts one behind another. "A line that isn't as this page has it .. is answered `bad line`".
use Rattle.std.specs.Prelude.{Bool, true, false, List, [], ◌∷◌, ℕ, min}
use Rattle.session_read.specs.declared.asked.Asked.{Asked}
use Rattle.session_read.specs.Lines.{said_by, asked_of}
use Rattle.session_print.specs.Readings.{reading_texts}
use Rattle.session_print.specs.Echoes.{echoing_texts}

-- `bad line`
abbrev pub BAD-LINE : List ℕ
BAD-LINE = 98 ∷ 97 ∷ 100 ∷ 32 ∷ 108 ∷ 105 ∷ 110 ∷ 101 ∷ []

-- what is answered to a line that asks for this with these bytes, with n bytes for the output; `bad line` but for `read` and `echo`
abbrev pub message_texts : ℕ → List ℕ → Asked → List (List ℕ)
message_texts most datagram (Asked.Read end id) = reading_texts end (record { 0 = id }) datagram
message_texts most datagram (Asked.Echo end id other room) = echoing_texts end (record { 0 = id }) datagram other (min room most)
message_texts most datagram Asked.Bad = BAD-LINE ∷ []
message_texts most datagram Asked.Start = BAD-LINE ∷ []
message_texts most datagram (Asked.State command) = BAD-LINE ∷ []

-- whether a line is about a state
abbrev pub about_state : Asked → Bool
about_state Asked.Bad = false
about_state (Asked.Read end id) = false
about_state (Asked.Echo end id other room) = false
about_state Asked.Start = true
about_state (Asked.State command) = true

-- a line that isn't about a state, with memories of n and m bytes for what it says and for the output
unfoldable pub answer_texts : ℕ → ℕ → List ℕ → List (List ℕ)
answer_texts size most line = message_texts most (said_by size line).bytes (asked_of size line)
