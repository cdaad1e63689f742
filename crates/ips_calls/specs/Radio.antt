-- Document 01: "A radio message handed in: as for reading", 19 first, and document 02, §1: "handing in a radio message now carries its time and tests no silence"; 21
-- "right after 19".
use Rattle.meaning.specs.declared.message.Plane.{Plane}
use Rattle.std.specs.Prelude.{ℕ, cond, List, ◌≡◌, Result, Ok, Err}
use Rattle.quantity.specs.declared.count.DatalinkId.{DatalinkId}
use Rattle.quantity.specs.declared.refusal.Refusal.{Refusal}
use Rattle.quantity.specs.Limits.{Limits, CURRENT-LIMITS}
use Rattle.quantity.specs.Refusals.{OUTSIDE-LIMITS, EARLIER-PACE}
use Rattle.meaning.specs.declared.message.End.TheVariants as ends
use Rattle.meaning.specs.declared.message.Control.{Control}
use Rattle.reader.specs.Readings.{Verdict, ControlReading, DataReading, read_control, read_data, plane_of}
use Rattle.pacer.specs.Pacing.{is_earlier, heard_at, moved_to}
use Rattle.ips_state.specs.State.{State, with_pacer}
use Rattle.ips_state.specs.Limits.{state_fits_under}
use Rattle.ips_radio.specs.Heard.{heard_by, due_of}
use Rattle.ips_radio.specs.declared.RadioAnswer.{RadioAnswer}

-- what a radio message handed in comes to
pub record AfterRadio : Type 0 where
  pub answer : Result RadioAnswer Refusal
  pub state : State

abbrev pub refused_heard : Refusal → State → AfterRadio
refused_heard refusal s = record { answer = Err refusal; state = s }

abbrev pub unchanged : State → AfterRadio
unchanged s = record { answer = Ok RadioAnswer.Accepted; state = s }

-- "once accepted it moves that clock, a data message too, which changes nothing else"
abbrev pub passed_on : (time : ℕ) → State → AfterRadio
passed_on time s = record { answer = Ok RadioAnswer.Accepted; state = with_pacer s (moved_to time s.pacer) }

-- "A mobility message is reported due when .."
abbrev pub heard_control : (time : ℕ) → Control → State → AfterRadio
heard_control time message s =
    record { answer = cond (due_of s.context message.context) (Ok RadioAnswer.Due) (Ok RadioAnswer.Accepted); state = with_pacer (heard_by message s) (heard_at time s.pacer) }

-- by the reader's verdict; it is asked for a message of its own plane only
abbrev pub by_verdict : Verdict → State → AfterRadio → AfterRadio
by_verdict Verdict.Accepted s accepted = accepted
by_verdict Verdict.OtherPlane s accepted = unchanged s
by_verdict (Verdict.Refused refusal) s accepted = refused_heard refusal s

abbrev pub control_heard : (time : ℕ) → ControlReading → State → AfterRadio
control_heard time reading s = by_verdict reading.verdict s (heard_control time reading.message s)

abbrev pub data_heard : (time : ℕ) → DataReading → State → AfterRadio
data_heard time reading s = by_verdict reading.verdict s (passed_on time s)

abbrev pub by_plane : Result Plane Refusal → State → (control data' : AfterRadio) → AfterRadio
by_plane (Ok Plane.Control) s control data' = control
by_plane (Ok Plane.Data) s control data' = data'
by_plane (Err refusal) s control data' = refused_heard refusal s

-- as for reading
abbrev pub read_at : (time : ℕ) → State → List ℕ → AfterRadio
read_at time s datagram =
    by_plane (plane_of datagram) s (control_heard time (read_control ends.Radio s.datalink.id datagram) s) (data_heard time (read_data ends.Radio s.datalink.id datagram) s)

unfoldable pub handed_in_under : Limits → (time : ℕ) → State → List ℕ → AfterRadio
handed_in_under limits time s datagram =
    cond (state_fits_under limits s)
    (cond (is_earlier time s.pacer) (refused_heard (record { number = EARLIER-PACE; place = 0 }) s) (read_at time s datagram))
    (refused_heard (record { number = OUTSIDE-LIMITS; place = 0 }) s)

abbrev pub handed_in : (time : ℕ) → State → List ℕ → AfterRadio
handed_in time s datagram = handed_in_under CURRENT-LIMITS time s datagram

-- ---- "A radio message handed in: as for reading": what reading the datagram refuses it by, number and place
pub data ReadingRefuses (datalink : DatalinkId) (datagram : List ℕ) (refusal : Refusal) : Type 0 where
  by_header : plane_of datagram ≡ Err refusal → ReadingRefuses datalink datagram refusal
  by_control : plane_of datagram ≡ Ok Plane.Control → (read_control ends.Radio datalink datagram).verdict ≡ Verdict.Refused refusal → ReadingRefuses datalink datagram refusal
  by_data : plane_of datagram ≡ Ok Plane.Data → (read_data ends.Radio datalink datagram).verdict ≡ Verdict.Refused refusal → ReadingRefuses datalink datagram refusal
