-- "the destination tells the direction": whose message a record is, by the port that its datagram goes to; any other record is skipped. Assumes nothing.
use mathlib.Core.Path.{◌≡◌, refl, sym, ◌∙◌}
use mathlib.Core.List.{List}
use Prim.Native.Nat.{ℕ, suc, ◌*◌}
use borrow.Author.Tests.{eq-eqb, ne_eqb}
use Rattle.quantity.specs.declared.count.DatalinkId.{DatalinkId}
use Rattle.meaning.specs.declared.message.End.{End}
use Rattle.ethernet.specs.declared.Kind.{Kind}
use Rattle.ethernet.specs.declared.Ports.{Ports}
use Rattle.ethernet.specs.Layers.{packet_of, carried_of, destination_port, datagram_of}
use Rattle.ethernet.specs.Kinds.{kind_of, HoldsUdp}
use Rattle.ethernet.proofs.Exactly.{Tells, kind_tells, udp_is}
use Rattle.census.specs.Adding.{MOST}
use Rattle.census.specs.Outcomes.{skipped, message, sender_of, by_sender, reading_of, outcome_of}

-- "unsigned 64 bits"
pub most_is : suc MOST ≡ 4294967296 * 4294967296
most_is = refl

module _ (ports : Ports) (id : DatalinkId) (original : ℕ) (frame : List ℕ) where
  by_kind : (kind : Kind) → kind_of ports original frame ≡ kind → outcome_of ports id original frame ≡ by_sender (sender_of kind) (λ end. reading_of end id (datagram_of frame))
  unfolding outcome_of
  by_kind kind e = rw e

  -- to the radio's port: a message of the IPS end
  pub outcome_ips : HoldsUdp original frame → destination_port (carried_of (packet_of frame)) ≡ ports.radio
      → outcome_of ports id original frame ≡ message End.Ips (reading_of End.Ips id (datagram_of frame))
  outcome_ips k e = by_kind Kind.Ips (udp_is ports original frame k ∙ rw (eq-eqb (destination_port (carried_of (packet_of frame))) ports.radio e))

  -- to the IPS port: one of the radio
  pub outcome_radio : HoldsUdp original frame → destination_port (carried_of (packet_of frame)) ≡ ports.ips → (ports.radio ≡ ports.ips → ⊥)
      → outcome_of ports id original frame ≡ message End.Radio (reading_of End.Radio id (datagram_of frame))
  outcome_radio k e n =
      by_kind Kind.Radio
      (udp_is ports original frame k
      ∙ rw (ne_eqb (destination_port (carried_of (packet_of frame))) ports.radio (λ q. n (sym q ∙ e)), eq-eqb (destination_port (carried_of (packet_of frame))) ports.ips e))

  -- else skipped
  pub outcome_skipped : (HoldsUdp original frame → destination_port (carried_of (packet_of frame)) ≡ ports.radio → ⊥)
      → (HoldsUdp original frame → destination_port (carried_of (packet_of frame)) ≡ ports.ips → ⊥) → outcome_of ports id original frame ≡ skipped
  unfolding outcome_of
  outcome_skipped n m = go (kind_of ports original frame) (kind_tells ports original frame)
    where
      go : (kind : Kind) → Tells ports original frame kind → by_sender (sender_of kind) (λ end. reading_of end id (datagram_of frame)) ≡ skipped
      go Kind.Ips k = absurd (n k.0 k.1)
      go Kind.Radio k = absurd (m k.0 k.1)
      go Kind.Shortened k = refl
      go Kind.Short k = refl
      go Kind.OtherType k = refl
      go Kind.NotIpv4 k = refl
      go Kind.Fragment k = refl
      go Kind.OtherProtocol k = refl
      go Kind.Ipv4Length k = refl
      go Kind.UdpLength k = refl
      go Kind.OtherPort k = refl
