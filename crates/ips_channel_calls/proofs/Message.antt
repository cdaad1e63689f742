-- The message that carries the first packet may be written. Assumes nothing.
use Rattle.std.specs.Prelude.{Option, Some, None, Result}
use Rattle.quantity.specs.declared.count.FlowSequence.{FlowSequence}
use Rattle.quantity.specs.declared.count.ByteCount.{ByteCount}
use Rattle.quantity.specs.declared.refusal.Refusal.{Refusal}
use Prim.Native.Nat.{ℕ, ◌<◌, ◌≤◌, ◌^◌}
use mathlib.Core.Bool.{true}
use mathlib.Core.Path.{◌≡◌, refl}
use mathlib.Core.List.{List, [], ◌∷◌}
use native.Mathlib.Omega.{arith}
use borrow.Author.Tests.{lt-ltb, eq-eqb}
use lib.ListN.{length}
use Rattle.quantity.specs.Limits.{RESERVED-CHANNEL, LONGEST-PACKET}
use Rattle.meaning.specs.declared.message.End.TheVariants as ends
use Rattle.meaning.specs.declared.message.Data.{Data}
use Rattle.writable.specs.Allowed.{data_allowed}
use Rattle.store.specs.Packets.{Packet, first_bytes}
use Rattle.store.proofs.Entries.{within_limits}
use Rattle.store.proofs.Held.{Fit, fit_first}
use Rattle.writer.specs.Written.{data_written, Outcome}
use Rattle.ips_channel_rules.specs.Rules.{Terms, message_of, message_bytes}

pub first_short : (size : ℕ) (ps : List Packet) → Fit size ps → length (first_bytes ps) ≤ LONGEST-PACKET
unfolding first_bytes
first_short size [] f = omega arith
first_short size (p ∷ ps) f = omega (arith, within_limits (length p.bytes) (fit_first size p ps f))

pub carrier_allowed : (k : Terms) (sequence : Option FlowSequence) (n : ℕ) → k.id < RESERVED-CHANNEL → n ≤ LONGEST-PACKET → data_allowed ends.Ips (message_of k sequence) n ≡ true
unfolding data_allowed
carrier_allowed k None n d l = rw (lt-ltb k.id RESERVED-CHANNEL d, lt-ltb n (2 ^ 16) (omega arith))
carrier_allowed k (Some s) n d l = rw (eq-eqb k.id k.id refl, lt-ltb k.id RESERVED-CHANNEL d, lt-ltb n (2 ^ 16) (omega arith))

pub first_written : (k : Terms) (sequence : Option FlowSequence) (size : ℕ) (ps : List Packet) (message : Data) (packet out : List ℕ) (answer : Result ByteCount Refusal) (out' : List ℕ)
    → k.id < RESERVED-CHANNEL → Fit size ps → message ≡ message_of k sequence → packet ≡ first_bytes ps
    → Outcome (data_allowed ends.Ips message (length packet)) (data_written message packet) out answer out' → Outcome true (message_bytes k sequence (first_bytes ps)) out answer out'
unfolding message_bytes
first_written k sequence size ps message packet out answer out' d f m p o =
    rw (m, p, carrier_allowed k sequence (length (first_bytes ps)) d (first_short size ps f)) at o
