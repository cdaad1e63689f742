-- Document 02, §9: the kinds of a record, by the order of tests. "Fragments, VLAN tags, other protocols and ports, records that the capture shortened,
-- and IPv4 or UDP lengths that don't fit the record are counted as skipped."
use Rattle.std.specs.Prelude.{false, cond, List, ◌≡◌, ℕ, ◌≤◌, eqb, ltb, length}
use Rattle.ethernet.specs.declared.Kind.{Kind}
use Rattle.ethernet.specs.declared.Ports.{Ports}
use Rattle.ethernet.specs.Layers.{ether_type, packet_of, version_of, header_size, total_length, is_fragment, protocol_of, carried_of, destination_port, udp_length}

abbrev pub ETHERTYPE-IPV4 : ℕ
ETHERTYPE-IPV4 = 2048

abbrev pub PROTOCOL-UDP : ℕ
PROTOCOL-UDP = 17

-- a length under that of the header, or over what IPv4 carries (so where IPv4 carries no whole header, too); then "the destination tells the direction"
unfoldable pub udp_kind : Ports → List ℕ → Kind
udp_kind ports carried =
    cond (ltb (udp_length carried) 8) Kind.UdpLength
    (cond (ltb (length carried) (udp_length carried)) Kind.UdpLength
    (cond (eqb (destination_port carried) ports.radio) Kind.Ips
    (cond (eqb (destination_port carried) ports.ips) Kind.Radio Kind.OtherPort)))

-- no whole header or another version; a fragment; another protocol; a header under 20 bytes, or over the total length, or that over the packet
unfoldable pub ipv4_kind : Ports → List ℕ → Kind
ipv4_kind ports packet =
    cond (ltb (length packet) 20) Kind.NotIpv4
    (cond (eqb (version_of packet) 4)
    (cond (is_fragment packet) Kind.Fragment
    (cond (eqb (protocol_of packet) PROTOCOL-UDP)
    (cond (ltb (header_size packet) 20) Kind.Ipv4Length
    (cond (ltb (total_length packet) (header_size packet)) Kind.Ipv4Length
    (cond (ltb (length packet) (total_length packet)) Kind.Ipv4Length (udp_kind ports (carried_of packet)))))
    Kind.OtherProtocol))
    Kind.NotIpv4)

-- the kind of a record, by the ports, how many bytes there were, and those that were kept
unfoldable pub kind_of : Ports → ℕ → List ℕ → Kind
kind_of ports original frame =
    cond (ltb (length frame) original) Kind.Shortened
    (cond (ltb (length frame) 14) Kind.Short
    (cond (eqb (ether_type frame) ETHERTYPE-IPV4) (ipv4_kind ports (packet_of frame)) Kind.OtherType))

-- ---- said without an order of tests

-- the kind by the destination port
abbrev pub port_kind : Ports → ℕ → Kind
port_kind ports port = cond (eqb port ports.radio) Kind.Ips (cond (eqb port ports.ips) Kind.Radio Kind.OtherPort)

-- a packet of IPv4 that the capture kept whole
pub record HoldsIpv4 (original : ℕ) (frame : List ℕ) : Type 0 where
  pub whole : original ≤ length frame
  pub room : 34 ≤ length frame
  pub ether : ether_type frame ≡ ETHERTYPE-IPV4
  pub version : version_of (packet_of frame) ≡ 4

-- a datagram of UDP, in one piece, with lengths that fit the record
pub record HoldsUdp (original : ℕ) (frame : List ℕ) : Type 0 where
  pub ipv4 : HoldsIpv4 original frame
  pub one : is_fragment (packet_of frame) ≡ false
  pub protocol : protocol_of (packet_of frame) ≡ PROTOCOL-UDP
  pub header : 20 ≤ header_size (packet_of frame)
  pub total : header_size (packet_of frame) ≤ total_length (packet_of frame)
  pub inside : total_length (packet_of frame) ≤ length (packet_of frame)
  pub least : 8 ≤ udp_length (carried_of (packet_of frame))
  pub most : udp_length (carried_of (packet_of frame)) ≤ length (carried_of (packet_of frame))
