-- Number 13: "packet isn't IPv6: under 40 bytes, version not 6, or length not 40 plus its Payload Length", byte by byte: the Version is the higher half of byte 0,
-- the Payload Length bytes 4 and 5, "big-endian".
use Rattle.std.specs.Prelude.{ℕ, ◌+◌, ◌*◌, ◌/◌, ◌≤◌, List, ◌≡◌, length, get_or}

pub record FixedHeader (packet : List ℕ) : Type 0 where
  pub whole : 40 ≤ length packet
  pub version : get_or packet 0 0 / 16 ≡ 6
  pub payload : length packet ≡ 40 + (get_or packet 4 0 * 256 + get_or packet 5 0)
