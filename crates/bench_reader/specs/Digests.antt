-- A reading as one number: 64 bits into which each part is mixed, so that two readers that answer alike can be compared and timed.
use Rattle.quantity.specs.declared.count.DatalinkId.{DatalinkId}
use Rattle.quantity.specs.declared.count.LinkInstanceId.{LinkInstanceId}
use Rattle.quantity.specs.declared.count.FlowSequence.{FlowSequence}
use Rattle.meaning.specs.declared.message.ContextBytes.{ContextBytes}
use Rattle.meaning.specs.declared.message.Plane.{Plane}
use Rattle.std.specs.Prelude.{ℕ, ◌+◌, ◌-◌, ◌*◌, ◌/◌, ◌%◌, ◌^◌, Bool, true, false, cond, List, [], ◌∷◌, length, slice_index, slice_index_or, Option, Some, None, Result, Ok, Err}
use Rattle.quantity.specs.declared.refusal.Refusal.{Refusal}
use Rattle.meaning.specs.declared.message.End.{End}
use Rattle.meaning.specs.declared.message.Window.{Window}
use Rattle.meaning.specs.declared.message.Control.{Control}
use Rattle.meaning.specs.declared.message.Data.{Data}
use Rattle.reader.specs.Readings.{Verdict, ControlReading, DataReading}

abbrev pub end_of : Bool → End
end_of true = End.Radio
end_of false = End.Ips

-- the sum's 64 bits turned by 17, and the part added
unfoldable pub mixed : ℕ → ℕ → ℕ
mixed sum part = (sum % 2 ^ 47 * 2 ^ 17 + sum / 2 ^ 47 + part) % 2 ^ 64

-- ---- each part of a meaning as a number

-- above every number of 32 bits: nothing is stated; a Flow Window without the field
abbrev pub ABSENT : ℕ
ABSENT = 2 ^ 32

abbrev pub EMPTY : ℕ
EMPTY = 2 ^ 32 + 1

abbrev pub datalink_part : Option DatalinkId → ℕ
datalink_part None = ABSENT
datalink_part (Some id) = id.0

abbrev pub instance_part : Option (LinkInstanceId × ℕ) → ℕ
instance_part None = 0
instance_part (Some (id, n)) = id.0

abbrev pub instance_length : Option (LinkInstanceId × ℕ) → ℕ
instance_length None = 0
instance_length (Some (id, n)) = n

abbrev pub context_part : Option (ContextBytes × ℕ) → ℕ
context_part None = 0
context_part (Some (bytes, n)) = bytes.0

abbrev pub context_length : Option (ContextBytes × ℕ) → ℕ
context_length None = 0
context_length (Some (bytes, n)) = n

abbrev pub status_part : Option ℕ → ℕ
status_part None = ABSENT
status_part (Some number) = number

abbrev pub sequence_part : Option FlowSequence → ℕ
sequence_part None = ABSENT
sequence_part (Some word) = word.0

abbrev pub window_part : Option Window → ℕ
window_part None = ABSENT
window_part (Some Window.Empty) = EMPTY
window_part (Some (Window.Given word)) = word.0

abbrev pub counted_part : Option (ℕ × FlowSequence) → ℕ
counted_part None = ABSENT
counted_part (Some (id, word)) = word.0

abbrev pub counted_channel : Option (ℕ × FlowSequence) → ℕ
counted_channel None = ABSENT
counted_channel (Some (id, word)) = id

abbrev pub channel_part : Option ℕ → ℕ
channel_part = status_part

abbrev pub expiration_part : Option ℕ → ℕ
expiration_part None = ABSENT
expiration_part (Some time) = time

-- ---- what is stated, one part after another

abbrev pub mixed_all : ℕ → List ℕ → ℕ
mixed_all sum [] = sum
mixed_all sum (part ∷ parts) = mixed_all (mixed sum part) parts

-- of a control message as a whole and of one channel; of a channel that the tables don't have, nothing is stated
unfoldable pub control_sum : ℕ → Control → ℕ
control_sum channel m =
    mixed_all 0
    (datalink_part m.datalink
    ∷ instance_part m.instance
    ∷ instance_length m.instance
    ∷ context_part m.context
    ∷ context_length m.context
    ∷ status_part (slice_index_or m.statuses channel None)
    ∷ sequence_part (slice_index_or m.sequences channel None)
    ∷ window_part (slice_index_or m.windows channel None)
    ∷ [])

-- of what is noted of a control message: its link, and of one channel its status and its window
unfoldable pub noted_sum : Option (LinkInstanceId × ℕ) → Option (ContextBytes × ℕ) → (status window : ℕ) → ℕ
noted_sum instance context status window =
    mixed_all 0 (instance_part instance ∷ instance_length instance ∷ context_part context ∷ context_length context ∷ status ∷ window ∷ [])

abbrev pub noted_of : ℕ → Control → ℕ
noted_of channel m =
    noted_sum m.instance m.context (status_part (slice_index_or m.statuses channel None)) (window_part (slice_index_or m.windows channel None))

unfoldable pub data_sum : Data → ℕ
data_sum m = mixed_all 0 (datalink_part m.datalink ∷ counted_part m.sequence ∷ counted_channel m.sequence ∷ channel_part m.channel ∷ expiration_part m.expiration ∷ [])

-- and of a packet its length and its last byte
unfoldable pub packet_sum : ℕ → List ℕ → ℕ
packet_sum sum packet = mixed_all sum (length packet ∷ slice_index packet (length packet - 1) ∷ [])

-- ---- a reading

abbrev pub is_accepted : Verdict → Bool
is_accepted Verdict.Accepted = true
is_accepted Verdict.OtherPlane = false
is_accepted (Verdict.Refused refusal) = false

-- the number in the bits above the 17 that the place needs; no number is 0, so no refusal gives 0 or 1
abbrev pub refusal_of : Refusal → ℕ
refusal_of refusal = mixed refusal.number refusal.place

abbrev pub fault_of : Verdict → ℕ
fault_of Verdict.Accepted = 0
fault_of Verdict.OtherPlane = 1
fault_of (Verdict.Refused refusal) = refusal_of refusal

abbrev pub plane_digest : Result Plane Refusal → ℕ
plane_digest (Ok Plane.Control) = 0
plane_digest (Ok Plane.Data) = 1
plane_digest (Err refusal) = refusal_of refusal

abbrev pub digest_of : Verdict → ℕ → ℕ
digest_of verdict sum = cond (is_accepted verdict) sum (fault_of verdict)

abbrev pub control_digest : ℕ → ControlReading → ℕ
control_digest channel reading = digest_of reading.verdict (control_sum channel reading.message)

abbrev pub noted_digest : ℕ → ControlReading → ℕ
noted_digest channel reading = digest_of reading.verdict (noted_of channel reading.message)

abbrev pub data_digest : DataReading → ℕ
data_digest reading = digest_of reading.verdict (data_sum reading.message)

abbrev pub packet_digest : DataReading → List ℕ → ℕ
packet_digest reading packet = digest_of reading.verdict (packet_sum (data_sum reading.message) packet)
