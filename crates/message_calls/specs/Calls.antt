-- READING and WRITING as a caller asks for them that shares no types with Rattle: the answer as numbers, and every lent word and byte.
use Rattle.std.specs.Prelude.{ℕ, ◌-◌, ◌≡◌, List, Bool, true, false, cond, ◌&&◌, length, eqb, leb}
use Rattle.quantity.specs.Refusals.{OUTSIDE-LIMITS}
use Rattle.meaning.specs.declared.message.End.{End}
use Rattle.reader.specs.Readings.{Verdict, ControlReading, DataReading, read_control, read_data, packet_of}
use Rattle.writable.specs.Allowed.{control_allowed, data_allowed}
use Rattle.writer.specs.Written.{control_written, data_written, answer_to, out_after}
use Rattle.answer_codes.specs.declared.Answer.{Answer}
use Rattle.answer_codes.specs.Codes.{Outcome, code_of, refused_as, written_as}
use Rattle.answer_codes.specs.Codes.Outcome.{refused, accepted, other_plane}
use Rattle.lent_messages.specs.Layout.{CONTROL-WORDS, DATA-WORDS}
use Rattle.lent_messages.specs.Words.{control_words, control_of, control_spelled, data_words, data_of, data_spelled}

-- ---- whose message it is, by its number
abbrev pub IPS-END : ℕ
IPS-END = 0

abbrev pub RADIO-END : ℕ
RADIO-END = 1

abbrev pub is_end : ℕ → Bool
is_end end = leb end RADIO-END

unfoldable pub end_of : ℕ → End
end_of end = cond (eqb end IPS-END) End.Ips End.Radio

-- ---- answers
abbrev pub refused_by : ℕ → Outcome
refused_by number = refused number 0

abbrev pub is_accepted : Verdict → Bool
is_accepted Verdict.Accepted = true
is_accepted Verdict.OtherPlane = false
is_accepted (Verdict.Refused refusal) = false

abbrev pub verdict_as : Verdict → Outcome
verdict_as Verdict.Accepted = accepted
verdict_as Verdict.OtherPlane = other_plane
verdict_as (Verdict.Refused refusal) = refused_as refusal

-- ---- reading: 19 for an end that there isn't or words of another length, then the verdict; words that are not those of an accepted message stay
unfoldable pub taken : (end size : ℕ) → List ℕ → Bool
taken end size words = is_end end && eqb (length words) size

abbrev pub read_as : Bool → Verdict → Outcome
read_as is_taken verdict = cond is_taken (verdict_as verdict) (refused_by OUTSIDE-LIMITS)

abbrev pub words_after : Bool → Verdict → (said words : List ℕ) → List ℕ
words_after is_taken verdict said words = cond is_taken (cond (is_accepted verdict) said words) words

abbrev pub control_read : (end datalink : ℕ) → List ℕ → ControlReading
control_read end datalink datagram = read_control (end_of end) (record { 0 = datalink }) datagram

abbrev pub data_read : (end datalink : ℕ) → List ℕ → DataReading
data_read end datalink datagram = read_data (end_of end) (record { 0 = datalink }) datagram

pub record Reads (is_taken : Bool) (verdict : Verdict) (said words : List ℕ) (answer : Answer) (words' : List ℕ) : Type 0 where
  pub answers : answer ≡ code_of (read_as is_taken verdict)
  pub words_are : words' ≡ words_after is_taken verdict said words

abbrev pub ReadsControl : (datagram : List ℕ) (end datalink : ℕ) (meaning : List ℕ) (answer : Answer) (meaning' : List ℕ) → Type 0
ReadsControl datagram end datalink meaning answer meaning' =
    Reads (taken end CONTROL-WORDS meaning) (control_read end datalink datagram).verdict (control_words (control_read end datalink datagram).message) meaning answer meaning'

-- "Packet Data is the last option": the packet is the datagram's last bytes (`packet_stands`)
abbrev pub packet_start : List ℕ → ℕ
packet_start datagram = length datagram - length (packet_of datagram)

abbrev pub data_said : (end datalink : ℕ) → List ℕ → List ℕ
data_said end datalink datagram = data_words (data_read end datalink datagram).message (packet_start datagram) (length (packet_of datagram))

abbrev pub ReadsData : (datagram : List ℕ) (end datalink : ℕ) (parts : List ℕ) (answer : Answer) (parts' : List ℕ) → Type 0
ReadsData datagram end datalink parts answer parts' =
    Reads (taken end DATA-WORDS parts) (data_read end datalink datagram).verdict (data_said end datalink datagram) parts answer parts'

-- ---- writing: 20 for an end that there isn't or words that say nothing, then as the writer answers: 20, 18, or the message
unfoldable pub control_may : ℕ → List ℕ → Bool
control_may end meaning = is_end end && (control_spelled meaning && control_allowed (end_of end) (control_of meaning))

unfoldable pub data_may : ℕ → List ℕ → ℕ → Bool
data_may end parts size = is_end end && (data_spelled parts && data_allowed (end_of end) (data_of parts) size)

pub record Writes (may : Bool) (message out : List ℕ) (answer : Answer) (out' : List ℕ) : Type 0 where
  pub answers : answer ≡ code_of (written_as (answer_to may message (length out)))
  pub bytes_are : out' ≡ out_after may message out

abbrev pub WritesControl : (end : ℕ) (meaning out : List ℕ) (answer : Answer) (out' : List ℕ) → Type 0
WritesControl end meaning out answer out' = Writes (control_may end meaning) (control_written (control_of meaning)) out answer out'

abbrev pub WritesData : (end : ℕ) (parts packet out : List ℕ) (answer : Answer) (out' : List ℕ) → Type 0
WritesData end parts packet out answer out' = Writes (data_may end parts (length packet)) (data_written (data_of parts) packet) out answer out'
