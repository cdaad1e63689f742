use Rattle.std.proofs.Common.{◌≡◌, ◌^◌, ◌<◌, drop}
use Rattle.wire.specs.Numbers.{number_from, big_endian}
use Rattle.wire.proofs.number.read.Given as goal

abbrev pub invariant-loop-byte : goal.invariant-loop-byte
invariant-loop-byte l = (l.value < 256 ^ l.byte-index) × (big_endian l.bytes ≡ number_from l.value (drop l.byte-index l.bytes))
