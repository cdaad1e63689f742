-- docs/SESSION.md, `read`: "the meaning, as below, read by a reader configured with Datalink ID `ID`".
use Rattle.quantity.specs.declared.refusal.Refusal.{Refusal}
use Rattle.meaning.specs.declared.message.Plane.{Plane}
use Rattle.std.specs.Prelude.{ℕ, List, [], Result, Ok, Err}
use Rattle.quantity.specs.declared.count.DatalinkId.{DatalinkId}
use Rattle.meaning.specs.declared.message.End.{End}
use Rattle.reader.specs.Readings.{Verdict, ControlReading, DataReading, read_control, read_data, packet_of, plane_of}
use Rattle.message_words.specs.Phrases.{control_texts, data_texts, refused_texts}

-- what an accepted message is answered, or the refusal; a reader is asked for a message of its plane only
abbrev pub verdict_texts : List (List ℕ) → Verdict → List (List ℕ)
verdict_texts accepted Verdict.Accepted = accepted
verdict_texts accepted Verdict.OtherPlane = []
verdict_texts accepted (Verdict.Refused refusal) = refused_texts refusal

abbrev pub plane_texts : List (List ℕ) → List (List ℕ) → Result Plane Refusal → List (List ℕ)
plane_texts on_control on_data (Ok Plane.Control) = on_control
plane_texts on_control on_data (Ok Plane.Data) = on_data
plane_texts on_control on_data (Err refusal) = refused_texts refusal

abbrev pub control_read_texts : ControlReading → List (List ℕ)
control_read_texts reading = verdict_texts (control_texts reading.message) reading.verdict

abbrev pub data_read_texts : DataReading → List ℕ → List (List ℕ)
data_read_texts reading packet = verdict_texts (data_texts reading.message packet) reading.verdict

-- by the plane of a datagram, what a reader of that plane answers
unfoldable pub by_plane : (ControlReading → List (List ℕ)) → (DataReading → List ℕ → List (List ℕ)) → End → DatalinkId → List ℕ → List (List ℕ)
by_plane on_control on_data end id datagram = plane_texts (on_control (read_control end id datagram)) (on_data (read_data end id datagram) (packet_of datagram)) (plane_of datagram)

abbrev pub reading_texts : End → DatalinkId → List ℕ → List (List ℕ)
reading_texts end id datagram = by_plane control_read_texts data_read_texts end id datagram
