-- docs/STATION.md: what the program answers to a line, what is held behind it, and every word that it leaves.
use Rattle.quantity.specs.declared.count.LinkInstanceId.{LinkInstanceId}
use Rattle.quantity.specs.declared.refusal.Refusal.{Refusal}
use Rattle.radio_end_state.specs.declared.channel.Channel.{Channel}
use Rattle.std.specs.Prelude.{true, cond, List, [], ◌∷◌, ◌++◌, ◌≡◌, ℕ, min, length, take, drop, replicate, Option, Some, Result, Ok, Err}
use Rattle.quantity.specs.Refusals.{OUTSIDE-LIMITS, LARGE-ALLOWANCE}
use Rattle.radio_end_state.specs.State.{State, fresh_state}
use Rattle.radio_end_state.specs.Limits.{allowances_fit}
use Rattle.radio_end_state.specs.Calls.{After, heard, status_told, queued_told, context_told, link_told, told}
use Rattle.radio_end_words.specs.Words.{state_in, state_words}
use Rattle.radio_end_telling.specs.Left.{is_refused}
use Rattle.radio_end_start.specs.Start.{configuration_in, starts_in, begins_in, not_started}
use Rattle.radio_end.specs.Shown.{words_needed, shown_of}
use Rattle.line_rows.specs.Rows.{over}
use Rattle.message_words.specs.Saying.{Says}
use Rattle.message_words.specs.Phrases.{refused_texts}
use Rattle.station_read.specs.declared.asked.Asked.{Asked}
use Rattle.station_read.specs.declared.asked.Command.{Command}
use Rattle.station_read.specs.Lines as lines
use Rattle.station_print.specs.Answers.{BAD-LINE, STARTED, ANSWER, UNASKED, TELL, HEARD, UNCHANGED, KEPT, answer_texts}
use Rattle.station_print.specs.Shown.{channel_texts}
use Rattle.station.specs.declared.Held.{Held}
use Rattle.station.specs.declared.Turn.{Turn}

-- what a call comes to: the texts of its answer, and the words
pub record Called : Type 0 where
  pub texts : List (List ℕ)
  pub words : List ℕ

-- a call of the radio's end: a refused one leaves the words as they were
abbrev pub called : (asked quiet words : List ℕ) → After → Called
called asked quiet words after = record { texts = answer_texts asked quiet after.answer after.output; words = cond (is_refused after.answer) words (state_words after.state) }

-- "`link LEN VALUE`"
abbrev pub link_said : (size value : ℕ) → Option (LinkInstanceId × ℕ)
link_said size value = Some (record { 0 = value }, size)

-- "12 for `show` of a lacking channel too"
abbrev pub shown_texts : Result Channel Refusal → List (List ℕ)
shown_texts (Ok channel) = channel_texts channel
shown_texts (Err refusal) = refused_texts refusal

abbrev pub show_texts : State → ℕ → List (List ℕ)
show_texts s id = shown_texts (shown_of s id)

-- a command, on the words of a state, with the bytes that the line says and an output of ROOM bytes
abbrev pub commanded : Command → (words bytes out : List ℕ) → Called
commanded Command.Hear words bytes out = called ANSWER HEARD words (heard (state_in words) bytes out)
commanded (Command.Status id value) words bytes out = called UNASKED UNCHANGED words (status_told (state_in words) id value out)
commanded Command.Context words bytes out = called UNASKED UNCHANGED words (context_told (state_in words) (lines.context_said bytes) out)
commanded (Command.Queued id count) words bytes out = called UNASKED UNCHANGED words (queued_told (state_in words) id (record { 0 = count }) out)
commanded (Command.Link size value) words bytes out = called UNASKED KEPT words (link_told (state_in words) (link_said size value) [])
commanded Command.Tell words bytes out = called TELL UNCHANGED words (told (state_in words) out)
commanded (Command.Show id) words bytes out = record { texts = show_texts (state_in words) id; words = words }

-- on the first words of many: the others are as they were
abbrev pub on_first : ℕ → List ℕ → (List ℕ → Called) → Called
on_first own words f = record { texts = (f (take own words)).texts; words = (f (take own words)).words ++ drop own words }

-- "A line that asks for a state before one was started is `bad line`"
abbrev pub bad_line : List ℕ → Called
bad_line words = record { texts = BAD-LINE ∷ []; words = words }

unfoldable pub stated : Held → (words : List ℕ) → Command → (room : ℕ) → (bytes output : List ℕ) → Called
stated held words command room bytes output = cond held.started (on_first held.words words (λ own. commanded command own bytes (take room output))) (bad_line words)

-- what a line comes to: the same, and what is held
pub record Turned : Type 0 where
  pub held : Held
  pub call : Called

-- "`start` is answered `started` .. a refused start leaves the state before it"
abbrev pub start_texts : Result (Unit {0}) Refusal → List (List ℕ)
start_texts (Ok tt) = STARTED ∷ []
start_texts (Err refusal) = refused_texts refusal

abbrev pub held_behind : Held → ℕ → Result (Unit {0}) Refusal → Held
held_behind held own (Ok tt) = record { started = true; words = own }
held_behind held own (Err refusal) = held

-- 19, then 23
unfoldable pub start_answer : (configuration words : List ℕ) → Result (Unit {0}) Refusal
start_answer configuration words =
    cond (starts_in configuration words) (cond (allowances_fit (configuration_in configuration).settings) (Ok tt) (not_started LARGE-ALLOWANCE)) (not_started OUTSIDE-LIMITS)

abbrev pub start_call : (configuration words : List ℕ) → Called
start_call configuration words = record { texts = start_texts (start_answer configuration words); words = cond (begins_in configuration words) (state_words (fresh_state (configuration_in configuration))) words }

-- a start of so many channels, whose configuration is the numbers of the line
unfoldable pub begun : Held → (words : List ℕ) → (channels : ℕ) → (numbers : List ℕ) → Turned
begun held words channels numbers =
    let own : ℕ = min (words_needed channels) (length words) in
    let configuration : List ℕ = lines.configuration_in numbers channels in
    record { held = held_behind held own (start_answer configuration (take own words)); call = on_first own words (start_call configuration) }

abbrev pub asking : Held → (words : List ℕ) → Asked → (numbers bytes output : List ℕ) → Turned
asking held words Asked.Bad numbers bytes output = record { held = held; call = bad_line words }
asking held words (Asked.Start channels) numbers bytes output = begun held words channels numbers
asking held words (Asked.State command room) numbers bytes output = record { held = held; call = stated held words command room bytes output }

-- ANY LINE, with room for so many bytes that it says
unfoldable pub answered : Held → (words : List ℕ) → (size : ℕ) → (line output : List ℕ) → Turned
answered held words size line output =
    asking held words (lines.asked_of size line) (over (lines.said_by size line).numbers (replicate lines.PLACES 0)) (lines.said_by size line).bytes output

-- ---- the contracts: the answer is laid into the output of the program, and every word is fixed
pub record Calls (call : Called) (out : List ℕ) (count : ℕ) (words' out' : List ℕ) : Type 0 where
  pub says : Says out 0 call.texts count out'
  pub words_are : words' ≡ call.words

pub record Turns (turned : Turned) (out : List ℕ) (r : Turn) (words' out' : List ℕ) : Type 0 where
  pub held : r.held ≡ turned.held
  pub calls : Calls turned.call out r.count words' out'
