-- The packet that a data message carries.
use Rattle.std.specs.Prelude.{ℕ, ◌-◌, List, [], ◌≡◌, cond, length, drop, eqb}
use Rattle.wire.specs.Options.{Options, done, cut, option, split}
use Rattle.meaning.specs.Kinds.{PACKET-DATA}
use Rattle.read_rules.specs.declared.answer.Verdict.{Verdict}
use Rattle.read_data.specs.declared.DataReading.{DataReading}
use Rattle.read_data.specs.declared.CarriedReading.{CarriedReading}

-- "The carried packet is handed back as that stretch of the caller's own datagram": the content of the first Packet Data, or nothing
unfoldable pub packet_in : Options → List ℕ
packet_in done = []
packet_in (cut rest) = []
packet_in (option kind content more) = cond (eqb kind PACKET-DATA) content (packet_in more)

unfoldable pub packet_of : List ℕ → List ℕ
packet_of datagram = packet_in (split (drop 1 datagram))

-- a place in a message of n bytes, if it is accepted; the end of any other
abbrev pub start_with : Verdict → ℕ → ℕ → ℕ
start_with Verdict.Accepted start n = start
start_with Verdict.OtherPlane start n = n
start_with (Verdict.Refused refusal) start n = n

-- "Packet Data is the last option": the packet ends with the datagram, and begins so many bytes before
unfoldable pub carried_reading : DataReading → List ℕ → CarriedReading
carried_reading reading datagram =
    record { reading = reading; start = start_with reading.verdict (length datagram - length (packet_of datagram)) (length datagram) }

-- the bytes from the start on are the packet that an accepted message carries
abbrev pub Carries : CarriedReading → List ℕ → Type 0
Carries carried datagram = carried.reading.verdict ≡ Verdict.Accepted → drop carried.start datagram ≡ packet_of datagram

-- a message of n bytes that isn't accepted carries nothing
unfoldable pub uncarried_of : DataReading → ℕ → CarriedReading
uncarried_of reading n = record { reading = reading; start = n }
