-- docs/SESSION.md, `echo`: "reads as above; then writes that meaning as a message of `END2` into an output of `ROOM` bytes: `written HEX`".
use Rattle.quantity.specs.declared.count.ByteCount.{ByteCount}
use Rattle.quantity.specs.declared.refusal.Refusal.{Refusal}
use Rattle.std.specs.Prelude.{ℕ, List, [], ◌∷◌, Bool, length, Result, Ok, Err}
use Rattle.quantity.specs.declared.count.DatalinkId.{DatalinkId}
use Rattle.meaning.specs.declared.message.End.{End}
use Rattle.text.specs.Strings.{bytes_text}
use Rattle.reader.specs.Readings.{ControlReading, DataReading}
use Rattle.writable.specs.Allowed.{control_allowed, data_allowed}
use Rattle.writer.specs.Written.{control_written, data_written, answer_to}
use Rattle.message_words.specs.Phrases.{refused_texts}
use Rattle.session_print.specs.Readings.{verdict_texts, by_plane}

-- `written `
abbrev pub WRITTEN : List ℕ
WRITTEN = 119 ∷ 114 ∷ 105 ∷ 116 ∷ 116 ∷ 101 ∷ 110 ∷ 32 ∷ []

-- how many bytes were written
abbrev pub count_of : Result ByteCount Refusal → ℕ
count_of (Ok count) = count.0
count_of (Err refusal) = 0

-- a writer's answer, with the message
abbrev pub written_texts : Result ByteCount Refusal → List ℕ → List (List ℕ)
written_texts (Ok count) message = WRITTEN ∷ (bytes_text message ∷ [])
written_texts (Err refusal) message = refused_texts refusal

-- a message that is allowed or not, written into an output of n bytes
abbrev pub outcome_texts : Bool → List ℕ → ℕ → List (List ℕ)
outcome_texts allowed message room = written_texts (answer_to allowed message room) message

abbrev pub control_echo_texts : End → ℕ → ControlReading → List (List ℕ)
control_echo_texts other room reading = verdict_texts (outcome_texts (control_allowed other reading.message) (control_written reading.message) room) reading.verdict

abbrev pub data_echo_texts : End → ℕ → DataReading → List ℕ → List (List ℕ)
data_echo_texts other room reading packet =
    verdict_texts (outcome_texts (data_allowed other reading.message (length packet)) (data_written reading.message packet) room) reading.verdict

-- read as a message of one end and written as one of the other
abbrev pub echoing_texts : End → DatalinkId → List ℕ → End → ℕ → List (List ℕ)
echoing_texts end id datagram other room = by_plane (λ reading. control_echo_texts other room reading) (λ reading packet. data_echo_texts other room reading packet) end id datagram
