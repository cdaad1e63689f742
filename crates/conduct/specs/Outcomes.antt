-- Document 02, §12: what a record of a capture comes to for the judge. "Datagrams that the reader refuses are passed over. A capture with fragments or shortened
-- records .. is reported as undecided for all channels."
use Rattle.meaning.specs.declared.message.Window.{Window}
use Rattle.quantity.specs.declared.count.FlowSequence.{FlowSequence}
use Rattle.std.specs.Prelude.{List, [], ◌∷◌, ℕ, ◌+◌, min, length, Option, Some, None}
use Rattle.quantity.specs.declared.count.DatalinkId.{DatalinkId}
use Rattle.quantity.specs.declared.count.ByteCount.{ByteCount}
use Rattle.meaning.specs.declared.message.End.{End}
use Rattle.reader.specs.Readings.{Verdict, ControlReading, DataReading, read_control, read_data, packet_of}
use Rattle.records.specs.Files.{Report, kept, refused}
use Rattle.ethernet.specs.declared.Kind.{Kind}
use Rattle.ethernet.specs.declared.Ports.{Ports}
use Rattle.ethernet.specs.Layers.{datagram_of}
use Rattle.ethernet.specs.Kinds.{kind_of}
use Rattle.conduct.specs.declared.verdict.Seen.{Seen}
use Rattle.conduct.specs.declared.verdict.Tally.{Tally}

-- an accepted message: the radio's control message, by its Flow Windows over the Channel IDs; a data message, "here always the IPS end's", by its channel, the bytes of its
-- packet and the Flow Sequence that it carries
pub data Message : Type 0 where
  control : List (Option Window) → Message
  packet : (channel : ℕ) → ByteCount → (carried : Option FlowSequence) → Message

-- a record: an accepted message; one that leaves the capture undecided; or nothing to the judge
pub data Outcome : Type 0 where
  nothing : Outcome
  undecides : Outcome
  message : Message → Outcome

-- §9: "no Channel Identifier: channel 0"
abbrev pub channel_of : Option ℕ → ℕ
channel_of None = 0
channel_of (Some channel) = channel

-- its channel is the message's own, by number 10
abbrev pub sequence_of : Option (ℕ × FlowSequence) → Option FlowSequence
sequence_of None = None
sequence_of (Some (channel, sequence)) = Some sequence

-- only what the reader accepts
abbrev pub if_accepted : Verdict → Message → Outcome
if_accepted Verdict.Accepted stated = message stated
if_accepted (Verdict.Refused refusal) stated = nothing
if_accepted Verdict.OtherPlane stated = nothing

abbrev pub control_of : ControlReading → Outcome
control_of reading = if_accepted reading.verdict (control reading.message.windows)

abbrev pub data_of : DataReading → List ℕ → Outcome
data_of reading carried =
    if_accepted reading.verdict (packet (channel_of reading.message.channel) (record { 0 = length carried }) (sequence_of reading.message.sequence))

-- a datagram to the IPS end's port, and one to the radio's
abbrev pub heard_in : DatalinkId → List ℕ → Outcome
heard_in id datagram = control_of (read_control End.Radio id datagram)

abbrev pub sent_in : DatalinkId → List ℕ → Outcome
sent_in id datagram = data_of (read_data End.Ips id datagram) (packet_of datagram)

-- a fragment or a shortened record, of whatever protocol it is, undecides; only the kind counts
unfoldable pub outcome_by : Kind → DatalinkId → List ℕ → Outcome
outcome_by Kind.Ips id datagram = sent_in id datagram
outcome_by Kind.Radio id datagram = heard_in id datagram
outcome_by Kind.Shortened id datagram = undecides
outcome_by Kind.Fragment id datagram = undecides
outcome_by Kind.Short id datagram = nothing
outcome_by Kind.OtherType id datagram = nothing
outcome_by Kind.NotIpv4 id datagram = nothing
outcome_by Kind.OtherProtocol id datagram = nothing
outcome_by Kind.Ipv4Length id datagram = nothing
outcome_by Kind.UdpLength id datagram = nothing
outcome_by Kind.OtherPort id datagram = nothing

-- a record, by the ports, the configured Datalink ID, how many bytes there were and those that were kept
abbrev pub outcome_of : Ports → DatalinkId → ℕ → List ℕ → Outcome
outcome_of ports id original frame = outcome_by (kind_of ports original frame) id (datagram_of frame)

-- ---- how many data messages were judged, and how many records skipped

-- of a datagram of one of the ends: a data message that the reader accepts is judged
abbrev pub seen_in : Outcome → Seen
seen_in nothing = Seen.Other
seen_in undecides = Seen.Other
seen_in (message (control cells)) = Seen.Other
seen_in (message (packet channel bytes carried)) = Seen.Judged

-- by the kind of the record: §9, all but datagrams to the two ports are skipped
unfoldable pub seen_by : Kind → DatalinkId → List ℕ → Seen
seen_by Kind.Ips id datagram = seen_in (sent_in id datagram)
seen_by Kind.Radio id datagram = Seen.Other
seen_by Kind.Shortened id datagram = Seen.Skipped
seen_by Kind.Fragment id datagram = Seen.Skipped
seen_by Kind.Short id datagram = Seen.Skipped
seen_by Kind.OtherType id datagram = Seen.Skipped
seen_by Kind.NotIpv4 id datagram = Seen.Skipped
seen_by Kind.OtherProtocol id datagram = Seen.Skipped
seen_by Kind.Ipv4Length id datagram = Seen.Skipped
seen_by Kind.UdpLength id datagram = Seen.Skipped
seen_by Kind.OtherPort id datagram = Seen.Skipped

abbrev pub seen_of : Ports → DatalinkId → ℕ → List ℕ → Seen
seen_of ports id original frame = seen_by (kind_of ports original frame) id (datagram_of frame)

-- a count at 2^64 - 1 stays there
abbrev pub one_more_of : ℕ → ℕ
one_more_of count = min 18446744073709551615 (count + 1)

abbrev pub tallied_by : Tally → Seen → Tally
tallied_by tally Seen.Skipped = record { judged = tally.judged; skipped = one_more_of tally.skipped }
tallied_by tally Seen.Judged = record { judged = one_more_of tally.judged; skipped = tally.skipped }
tallied_by tally Seen.Other = tally

-- of all records of a capture, one after another
unfoldable pub tallied_all : Ports → DatalinkId → List Report → Tally → Tally
tallied_all ports id [] tally = tally
tallied_all ports id (kept original frame ∷ reports) tally = tallied_all ports id reports (tallied_by tally (seen_of ports id original frame))
tallied_all ports id (refused number ∷ reports) tally = tallied_all ports id reports tally
