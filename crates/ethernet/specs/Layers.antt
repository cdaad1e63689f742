-- Where Ethernet, IPv4 (RFC 791, section 3.1) and UDP (RFC 768) keep what is asked of a record. A byte that isn't there counts as 0.
use Rattle.std.specs.Prelude.{Bool, not, ◌||◌, List, ℕ, ◌+◌, ◌*◌, ◌/◌, ◌%◌, eqb, get_or, drop}
use Rattle.octets.specs.Bytes.{slice}

-- a number of two bytes, the higher first
abbrev pub word_at : ℕ → List ℕ → ℕ
word_at n bytes = get_or bytes n 0 * 256 + get_or bytes (n + 1) 0

-- ---- Ethernet: two addresses of 6 bytes, the EtherType, the packet

abbrev pub ether_type : List ℕ → ℕ
ether_type frame = word_at 12 frame

abbrev pub packet_of : List ℕ → List ℕ
packet_of frame = drop 14 frame

-- ---- IPv4

-- "Version: 4 bits"
abbrev pub version_of : List ℕ → ℕ
version_of packet = get_or packet 0 0 / 16

-- "Internet Header Length is the length of the internet header in 32 bit words", here in bytes
abbrev pub header_size : List ℕ → ℕ
header_size packet = get_or packet 0 0 % 16 * 4

-- "Total Length is the length of the datagram, measured in octets, including internet header and data."
abbrev pub total_length : List ℕ → ℕ
total_length packet = word_at 2 packet

-- "Flags: 3 bits .. Bit 2: (MF) 0 = Last Fragment, 1 = More Fragments."
abbrev pub more_fragments : List ℕ → ℕ
more_fragments packet = word_at 6 packet / 8192 % 2

-- "Fragment Offset: 13 bits"
abbrev pub fragment_offset : List ℕ → ℕ
fragment_offset packet = word_at 6 packet % 8192

-- a fragment: more of them follow, or some came before
unfoldable pub is_fragment : List ℕ → Bool
is_fragment packet = eqb (more_fragments packet) 1 || not (eqb (fragment_offset packet) 0)

abbrev pub protocol_of : List ℕ → ℕ
protocol_of packet = get_or packet 9 0

-- what IPv4 carries: behind the header with its options, up to the total length
unfoldable pub carried_of : List ℕ → List ℕ
carried_of packet = slice (header_size packet) (total_length packet) packet

-- ---- UDP: source port, destination port, length, checksum, data

abbrev pub destination_port : List ℕ → ℕ
destination_port carried = word_at 2 carried

-- "Length is the length in octets of this user datagram including this header and the data."
abbrev pub udp_length : List ℕ → ℕ
udp_length carried = word_at 4 carried

-- the data: behind the header of 8 bytes, up to the length
abbrev pub data_of : List ℕ → List ℕ
data_of carried = slice 8 (udp_length carried) carried

-- the datagram of a record
unfoldable pub datagram_of : List ℕ → List ℕ
datagram_of frame = data_of (carried_of (packet_of frame))
