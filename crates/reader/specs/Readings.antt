-- "READING" a datagram of either plane and either end: the answer by the order of tests. What a caller speaks of stands here or is passed on.
use Rattle.quantity.specs.declared.refusal.Refusal.{Refusal}
use Rattle.meaning.specs.declared.message.Plane.{Plane}
use Rattle.std.specs.Prelude.{ℕ, List, cond, length, get_or, eqb, ltb, Result, Ok, Err}
use Rattle.quantity.specs.declared.count.DatalinkId.{DatalinkId}
use Rattle.quantity.specs.Limits.{LONGEST-DATAGRAM}
use Rattle.quantity.specs.Refusals.{LONG-DATAGRAM, HEADER}
use Rattle.meaning.specs.declared.message.End.{End}
use Rattle.read_rules.specs.Sorts.{rules_of}
use Rattle.read_control.specs.Message.{control_sort}
use Rattle.read_data.specs.Message.{data_sort}
use Rattle.reader.specs.Header.{version_of, flag_of, CURRENT-VERSION, read_with}
pub use Rattle.read_rules.specs.declared.answer.Verdict.{Verdict}
pub use Rattle.read_control.specs.declared.ControlReading.{ControlReading}
pub use Rattle.read_data.specs.declared.DataReading.{DataReading}
pub use Rattle.read_data.specs.declared.CarriedReading.{CarriedReading}
unfoldable pub use Rattle.read_data.specs.Packet.{packet_of, carried_reading}
pub use Rattle.read_data.specs.Packet.{Carries}

-- the plane of a datagram: 1, 2, then the Data Plane flag
unfoldable pub plane_of : List ℕ → Result Plane Refusal
plane_of datagram =
    cond (ltb LONGEST-DATAGRAM (length datagram)) (Err (record { number = LONG-DATAGRAM; place = 0 }))
    (cond (eqb (length datagram) 0) (Err (record { number = HEADER; place = 0 }))
    (cond (eqb (version_of (get_or datagram 0 0)) CURRENT-VERSION)
    (cond (eqb (flag_of (get_or datagram 0 0)) 0) (Ok Plane.Control) (Ok Plane.Data))
    (Err (record { number = HEADER; place = 0 }))))

-- a control message
unfoldable pub read_control : End → DatalinkId → List ℕ → ControlReading
read_control end id datagram = read_with (rules_of (control_sort end id)) datagram

-- a data message
unfoldable pub read_data : End → DatalinkId → List ℕ → DataReading
read_data end id datagram = read_with (rules_of (data_sort end id)) datagram

-- a data message, and where its packet begins
unfoldable pub read_carried : End → DatalinkId → List ℕ → CarriedReading
read_carried end id datagram = carried_reading (read_data end id datagram) datagram
