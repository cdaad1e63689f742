-- Document 02, §9: what a record comes to. It "takes IPv4 UDP datagrams to two ports (the destination tells the direction ..), reads them as CIRI".
use Rattle.quantity.specs.declared.refusal.Refusal.{Refusal}
use Rattle.meaning.specs.declared.message.Plane.{Plane}
use Rattle.std.specs.Prelude.{List, ℕ, length, Option, Some, None, Result, Ok, Err}
use Rattle.quantity.specs.declared.count.DatalinkId.{DatalinkId}
use Rattle.meaning.specs.declared.message.Control.{Control}
use Rattle.meaning.specs.declared.message.End.{End}
use Rattle.reader.specs.Readings.{Verdict, ControlReading, DataReading, read_control, read_data, packet_of, plane_of}
use Rattle.ethernet.specs.declared.Kind.{Kind}
use Rattle.ethernet.specs.declared.Ports.{Ports}
use Rattle.ethernet.specs.Layers.{datagram_of}
use Rattle.ethernet.specs.Kinds.{kind_of}

-- what a datagram is read as: refused by a number; an accepted control message; an accepted data message, by its channel and its packet's length.
-- A reader that is asked for a message of its own plane never answers that it is the other's (`outcome_fair`).
pub data Reading : Type 0 where
  refused : ℕ → Reading
  control : Control → Reading
  carried : (channel size : ℕ) → Reading
  astray : Reading

-- what a record comes to: skipped, or a message of an end
pub data Outcome : Type 0 where
  skipped : Outcome
  message : End → Reading → Outcome

-- "no Channel Identifier: channel 0"
abbrev pub channel_of : Option ℕ → ℕ
channel_of None = 0
channel_of (Some channel) = channel

abbrev pub by_verdict : Verdict → Reading → Reading
by_verdict Verdict.Accepted reading = reading
by_verdict (Verdict.Refused refusal) reading = refused refusal.number
by_verdict Verdict.OtherPlane reading = astray

abbrev pub control_of : ControlReading → Reading
control_of reading = by_verdict reading.verdict (control reading.message)

-- "packets, their bytes": the length of Packet Data
abbrev pub data_of : DataReading → List ℕ → Reading
data_of reading packet = by_verdict reading.verdict (carried (channel_of reading.message.channel) (length packet))

abbrev pub by_plane : Result Plane Refusal → Reading → Reading → Reading
by_plane (Ok Plane.Control) of_control of_data = of_control
by_plane (Ok Plane.Data) of_control of_data = of_data
by_plane (Err refusal) of_control of_data = refused refusal.number

-- a datagram of an end, read by the reader of its plane
unfoldable pub reading_of : End → DatalinkId → List ℕ → Reading
reading_of end id datagram =
    by_plane (plane_of datagram) (control_of (read_control end id datagram)) (data_of (read_data end id datagram) (packet_of datagram))

-- whose message a record holds, by its kind: to the radio's port it is the IPS end's, to the IPS port the radio's
abbrev pub sender_of : Kind → Option End
sender_of Kind.Ips = Some End.Ips
sender_of Kind.Radio = Some End.Radio
sender_of Kind.Shortened = None
sender_of Kind.Short = None
sender_of Kind.OtherType = None
sender_of Kind.NotIpv4 = None
sender_of Kind.Fragment = None
sender_of Kind.OtherProtocol = None
sender_of Kind.Ipv4Length = None
sender_of Kind.UdpLength = None
sender_of Kind.OtherPort = None

abbrev pub by_sender : Option End → (End → Reading) → Outcome
by_sender None f = skipped
by_sender (Some end) f = message end (f end)

-- a record, by the ports, the configured Datalink ID, how many bytes there were and those that were kept
unfoldable pub outcome_of : Ports → DatalinkId → ℕ → List ℕ → Outcome
outcome_of ports id original frame = by_sender (sender_of (kind_of ports original frame)) (λ end. reading_of end id (datagram_of frame))
