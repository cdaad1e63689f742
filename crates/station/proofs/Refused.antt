-- Promises: a line that is answered `refused ..` leaves every word, and what is held. Assumes nothing.
use Rattle.std.specs.Prelude.{Result, Ok, Err}
use Prim.Native.Nat.{ℕ, min}
use mathlib.Core.Bool.{Bool, true, false}
use mathlib.Core.List.{List, [], ◌++◌}
use mathlib.Core.Path.{◌≡◌, refl, ap, ◌∙◌}
use borrow.Author.Tests.{eqb-false}
use lib.Dec.{eqb}
use lib.ListN.{length, take, drop, get_or, take-append-drop}
use Rattle.quantity.specs.declared.refusal.Refusal.{Refusal}
use Rattle.radio_end_state.specs.declared.answer.Answer.{Answer}
use Rattle.radio_end_state.specs.State.{State}
use Rattle.radio_end_state.specs.Limits.{allowances_fit}
use Rattle.radio_end_state.specs.Calls.{After, heard, status_told, queued_told, context_told, link_told, told}
use Rattle.radio_end_words.specs.Words.{state_in}
use Rattle.radio_end_start.specs.Start.{configuration_in, starts_in}
use Rattle.radio_end.specs.Shown.{words_needed}
use Rattle.message_words.specs.Phrases.{refused_texts}
use Rattle.station_read.specs.declared.asked.Asked.{Asked}
use Rattle.station_read.specs.declared.asked.Command.{Command}
use Rattle.station_read.specs.Lines as lines
use Rattle.station_print.specs.Answers.{ANSWER, UNASKED, TELL, HEARD, UNCHANGED, KEPT}
use Rattle.station.specs.declared.Held.{Held}
use Rattle.station.specs.declared.Turn.{Turn}
use Rattle.station.specs.Turns.{Called, called, link_said, commanded, on_first, stated, start_answer, begun, Turned, asking, answered, Turns}

-- the first byte of an answer: of `refused` it is `r`, 114
abbrev pub first : List (List ℕ) → ℕ
first texts = get_or (get_or texts 0 []) 0 0

pub refused_first : (refusal : Refusal) → first (refused_texts refusal) ≡ 114
refused_first refusal = refl

-- an answer that begins with another byte
apart : {X : Type 0} (n : ℕ) → eqb n 114 ≡ false → n ≡ 114 → X
apart n differs e = absurd (eqb-false n 114 differs e)

-- ---- what a refusal leaves: of a call, and of a line
abbrev KeepsWords : List ℕ → Called → Type 0
KeepsWords words call = first call.texts ≡ 114 → call.words ≡ words

abbrev Keeps : Held → List ℕ → Turned → Type 0
Keeps held words turned = first turned.call.texts ≡ 114 → (turned.held ≡ held) × (turned.call.words ≡ words)

-- ---- a call whose words for a message and for none begin otherwise
module _ (asked quiet : List ℕ) (a : eqb (get_or asked 0 0) 114 ≡ false) (q : eqb (get_or quiet 0 0) 114 ≡ false) (words : List ℕ) where
  answer_keeps : (answer : Result Answer Refusal) (state : State) (output : List ℕ) → KeepsWords words (called asked quiet words (record { answer = answer; state = state; output = output }))
  answer_keeps (Ok (Answer.Answered count)) state output = apart (get_or asked 0 0) a
  answer_keeps (Ok (Answer.Unasked count)) state output = apart 117 refl
  answer_keeps (Ok Answer.Quiet) state output = apart (get_or quiet 0 0) q
  answer_keeps (Err refusal) state output = λ e. refl

  called_keeps : (after : After) → KeepsWords words (called asked quiet words after)
  called_keeps after = answer_keeps after.answer after.state after.output

unasked_keeps : (words : List ℕ) (after : After) → KeepsWords words (called UNASKED UNCHANGED words after)
unasked_keeps = called_keeps UNASKED UNCHANGED refl refl

command_keeps : (command : Command) (words bytes out : List ℕ) → KeepsWords words (commanded command words bytes out)
command_keeps Command.Hear words bytes out = called_keeps ANSWER HEARD refl refl words (heard (state_in words) bytes out)
command_keeps (Command.Status id value) words bytes out = unasked_keeps words (status_told (state_in words) id value out)
command_keeps Command.Context words bytes out = unasked_keeps words (context_told (state_in words) (lines.context_said bytes) out)
command_keeps (Command.Queued id count) words bytes out = unasked_keeps words (queued_told (state_in words) id (record { 0 = count }) out)
command_keeps (Command.Link size value) words bytes out = called_keeps UNASKED KEPT refl refl words (link_told (state_in words) (link_said size value) [])
command_keeps Command.Tell words bytes out = called_keeps TELL UNCHANGED refl refl words (told (state_in words) out)
command_keeps (Command.Show id) words bytes out = λ e. refl

-- on the first words of many
first_keeps : (own : ℕ) (words : List ℕ) (f : List ℕ → Called) → KeepsWords (take own words) (f (take own words)) → KeepsWords words (on_first own words f)
first_keeps own words f keeps e = ap (λ (part : List ℕ). part ++ drop own words) (keeps e) ∙ take-append-drop own words

state_keeps : (held : Held) (words : List ℕ) (command : Command) (room : ℕ) (bytes output : List ℕ) → KeepsWords words (stated held words command room bytes output)
unfolding stated
state_keeps held words command room bytes output = go held.started refl
  where
    go : (started : Bool) → held.started ≡ started → KeepsWords words (stated held words command room bytes output)
    go true s = rw s (first_keeps held.words words (λ own. commanded command own bytes (take room output)) (command_keeps command (take held.words words) bytes (take room output)))
    go false s = rw s (λ e. refl)

-- ---- a start: refused by 19, or by 23
start_keeps : (held : Held) (words : List ℕ) (channels : ℕ) (numbers : List ℕ) → Keeps held words (begun held words channels numbers)
unfolding begun start_answer
start_keeps held words channels numbers = go (starts_in configuration (take own words)) (allowances_fit (configuration_in configuration).settings) refl refl
  where
    own : ℕ
    own = min (words_needed channels) (length words)

    configuration : List ℕ
    configuration = lines.configuration_in numbers channels

    go : (starts fit : Bool) → starts_in configuration (take own words) ≡ starts → allowances_fit (configuration_in configuration).settings ≡ fit → Keeps held words (begun held words channels numbers)
    go true true s f = rw (s, f) (apart 115 refl)
    go true false s f = rw (s, f) (λ e. (refl, take-append-drop own words))
    go false fit s f = rw s (λ e. (refl, take-append-drop own words))

asked_keeps : (held : Held) (words : List ℕ) (asked : Asked) (numbers bytes output : List ℕ) → Keeps held words (asking held words asked numbers bytes output)
asked_keeps held words Asked.Bad numbers bytes output = λ e. (refl, refl)
asked_keeps held words (Asked.Start channels) numbers bytes output = start_keeps held words channels numbers
asked_keeps held words (Asked.State command room) numbers bytes output = λ e. (refl, state_keeps held words command room bytes output e)

-- ANY LINE whose answer begins with `r`, by the contract of the function that answers it
pub line_keeps : (held : Held) (words : List ℕ) (size : ℕ) (line output : List ℕ) {out : List ℕ} {turn : Turn} {words' out' : List ℕ}
    → Turns (answered held words size line output) out turn words' out' → first (answered held words size line output).call.texts ≡ 114 → (turn.held ≡ held) × (words' ≡ words)
unfolding answered
line_keeps held words size line output turns e =
    let kept = asked_keeps held words (lines.asked_of size line) _ (lines.said_by size line).bytes output e in
    (turns.held ∙ kept.0, turns.calls.words_are ∙ kept.1)
