-- RFC 8200, section 3: the fixed header of 40 bytes begins with a 4-bit Version; a 16-bit Payload Length stands at byte 4 and counts what follows it.
use Rattle.std.specs.Prelude.{ℕ, ◌+◌, ◌/◌, Bool, ◌&&◌, List, length, get_or, take, drop, eqb, leb}
use Rattle.quantity.specs.Limits.{SHORTEST-PACKET}
use Rattle.wire.specs.Numbers.{big_endian}

abbrev pub version_in : List ℕ → ℕ
version_in packet = get_or packet 0 0 / 16

abbrev pub payload_length : List ℕ → ℕ
payload_length packet = big_endian (take 2 (drop 4 packet))

-- number 13 is given where this is not so: "under 40 bytes, version not 6, or length not 40 plus its Payload Length"
unfoldable pub is_ipv6 : List ℕ → Bool
is_ipv6 packet = leb SHORTEST-PACKET (length packet) && (eqb (version_in packet) 6 && eqb (length packet) (SHORTEST-PACKET + payload_length packet))
