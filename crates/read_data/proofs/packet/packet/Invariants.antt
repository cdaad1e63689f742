use Prim.Native.Nat.{◌-◌}
use mathlib.Core.Path.{◌≡◌}
use lib.ListN.{length, drop}
use Rattle.wire.specs.Options.{split}
use Rattle.read_data.specs.Packet.{packet_of, packet_in}
use Rattle.read_data.proofs.packet.packet.Given as goal

abbrev pub invariant-loop-at : goal.invariant-loop-at
invariant-loop-at l = packet_of l.datagram ≡ packet_in (split (drop l.at l.datagram))

abbrev pub decreases-loop-at : goal.decreases-loop-at
decreases-loop-at l = length l.datagram - l.at
