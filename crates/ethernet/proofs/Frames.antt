-- A record byte by byte: which one holds a datagram, and what is skipped. Assumes nothing.
use mathlib.Core.Path.{◌≡◌, refl, sym, ap, ◌∙◌}
use mathlib.Core.Bool.{Bool, true, false, not, ◌||◌}
use mathlib.Core.List.{List, [], ◌∷◌, ◌++◌}
use Prim.Native.Nat.{ℕ, ◌+◌, ◌-◌, ◌*◌, ◌/◌, ◌%◌, ◌≤◌, ◌<◌}
use native.Mathlib.Omega.{arith}
use borrow.Author.Tests.{eq-eqb, ne_eqb, eqb-true, eqb-false}
use lib.Dec.{eqb}
use lib.ListN.{length, get_or, take, drop, length-take, length-drop, length-append}
use lib.Seq.{take-append-add, drop-append_seam}
use Rattle.octets.specs.Bytes.{slice}
use Rattle.ethernet.specs.declared.Kind.{Kind}
use Rattle.ethernet.specs.declared.Ports.{Ports}
use Rattle.ethernet.specs.Layers.{packet_of, header_size, total_length, is_fragment, carried_of, destination_port, udp_length, datagram_of}
use Rattle.ethernet.specs.Kinds.{kind_of, port_kind, HoldsIpv4, HoldsUdp}
use Rattle.ethernet.proofs.Exactly.{HoldsLengths, fragment_is, other_type_is, not_ipv4_is, other_protocol_is, ipv4_length_is, udp_length_is, udp_is, in_layers}

-- what IPv4 carries of a packet that is put together from its header and the rest
carried_is : (packet head rest : List ℕ) → packet ≡ head ++ rest → length head ≡ header_size packet → length head ≤ total_length packet
    → carried_of packet ≡ take (total_length packet - length head) rest
unfolding carried_of slice
carried_is packet head rest e h t =
    let k : ℕ = total_length packet - length head in
    let total : total_length packet ≡ length head + k = omega arith in
    let front : take (total_length packet) packet ≡ head ++ take k rest = ap (λ (m : ℕ). take m packet) total ∙ ap (take (length head + k)) e ∙ take-append-add head rest k in
    ap (λ (m : ℕ). drop m (take (total_length packet) packet)) (sym h) ∙ ap (drop (length head)) front ∙ drop-append_seam head (take k rest)

-- no fragment: of the 16 bits only the two highest may be set
one_piece : (g : ℕ) → (eqb ((64 * g * 256 + 0) / 8192 % 2) 1 || not (eqb ((64 * g * 256 + 0) % 8192) 0)) ≡ false
one_piece g = rw (ne_eqb ((64 * g * 256 + 0) / 8192 % 2) 1 (λ e. omega arith), eq-eqb ((64 * g * 256 + 0) % 8192) 0 (omega arith))

-- Two addresses, EtherType 08 00; version 4 and w words of header, service, total length, identification, the two highest flags at most, time to
-- live, protocol 17, checksum and addresses; options; source port, destination port, length, checksum, data, and whatever stands behind.
module _ (d₁ d₂ d₃ d₄ d₅ d₆ s₁ s₂ s₃ s₄ s₅ s₆ w t h l i j g ttl c₁ c₂ c₃ c₄ c₅ c₆ c₇ c₈ c₉ c₁₀ : ℕ) (options : List ℕ) (a b p q m n x y : ℕ) (data' more : List ℕ) where
  abbrev head : List ℕ
  head = (64 + w) ∷ t ∷ h ∷ l ∷ i ∷ j ∷ (64 * g) ∷ 0 ∷ ttl ∷ 17 ∷ c₁ ∷ c₂ ∷ c₃ ∷ c₄ ∷ c₅ ∷ c₆ ∷ c₇ ∷ c₈ ∷ c₉ ∷ c₁₀ ∷ options

  abbrev rest : List ℕ
  rest = a ∷ b ∷ p ∷ q ∷ m ∷ n ∷ x ∷ y ∷ (data' ++ more)

  abbrev frame : List ℕ
  frame = d₁ ∷ d₂ ∷ d₃ ∷ d₄ ∷ d₅ ∷ d₆ ∷ s₁ ∷ s₂ ∷ s₃ ∷ s₄ ∷ s₅ ∷ s₆ ∷ 8 ∷ 0 ∷ (head ++ rest)

  packet_is : packet_of frame ≡ head ++ rest
  packet_is = refl

  no_fragment : is_fragment (packet_of frame) ≡ false
  unfolding is_fragment
  no_fragment = one_piece g

  -- 20 bytes of header and its options; the header of UDP within the total length, and that within the packet
  module _ (low : 5 ≤ w) (high : w < 16) (between : length options ≡ 4 * w - 20) (least : 4 * w + 8 ≤ h * 256 + l)
      (inside : h * 256 + l ≤ 28 + length options + length data' + length more) where
    packet_length : length (packet_of frame) ≡ 28 + length options + length data' + length more
    packet_length = simp length-append (omega arith)

    header_is : length head ≡ header_size (packet_of frame)
    header_is = omega arith

    carried_bytes : carried_of (packet_of frame) ≡ a ∷ b ∷ p ∷ q ∷ m ∷ n ∷ x ∷ y ∷ take (h * 256 + l - (4 * w + 8)) (data' ++ more)
    carried_bytes =
        let k : total_length (packet_of frame) - length head ≡ 8 + (h * 256 + l - (4 * w + 8)) = omega arith in
        carried_is (packet_of frame) head rest packet_is header_is (omega arith)
        ∙ ap (λ (z : ℕ). take z rest) k
        ∙ take-append-add (a ∷ b ∷ p ∷ q ∷ m ∷ n ∷ x ∷ y ∷ []) (data' ++ more) (h * 256 + l - (4 * w + 8))

    udp_length_lem : udp_length (carried_of (packet_of frame)) ≡ m * 256 + n
    udp_length_lem = ap udp_length carried_bytes

    carried_length : length (carried_of (packet_of frame)) ≡ h * 256 + l - 4 * w
    carried_length = rw carried_bytes (simp (length-take, length-append) (omega arith))

    lengths : (original : ℕ) → original ≤ length frame → HoldsLengths original frame
    lengths original whole = record {
      ipv4 = record { whole = whole; room = simp length-append (omega arith); ether = refl; version = omega arith };
      one = no_fragment;
      protocol = refl;
      header = omega arith;
      total = omega arith;
      inside = rw packet_length inside;
    }

  -- where UDP's length fits, the kind is that of the destination port, and the datagram the data
  pub udp_frame : 5 ≤ w → w < 16 → length options ≡ 4 * w - 20 → m * 256 + n ≡ 8 + length data' → 4 * w + (m * 256 + n) ≤ h * 256 + l
      → h * 256 + l ≤ 28 + length options + length data' + length more → (ports : Ports) (original : ℕ) → original ≤ length frame
      → (kind_of ports original frame ≡ port_kind ports (p * 256 + q)) × (datagram_of frame ≡ data')
  udp_frame low high between size fits inside ports original whole =
      let least : 4 * w + 8 ≤ h * 256 + l = omega arith in
      let carried = carried_bytes low high between least inside in
      let stated = udp_length_lem low high between least inside in
      let long = carried_length low high between least inside in
      let k = lengths low high between least inside original whole in
      let holds : HoldsUdp original frame = record {
        ipv4 = k.ipv4;
        one = k.one;
        protocol = k.protocol;
        header = k.header;
        total = k.total;
        inside = k.inside;
        least = rw stated (omega arith);
        most = rw (stated, long) (omega arith);
      } in (
        udp_is ports original frame holds ∙ ap (λ (c : List ℕ). port_kind ports (destination_port c)) carried,
        in_layers frame head (a ∷ b ∷ p ∷ q ∷ m ∷ n ∷ x ∷ y ∷ []) data' more packet_is (header_is low high between least inside) refl (omega arith) (stated ∙ size),
      )

  -- a length of UDP under 8, or above what IPv4 carries
  pub udp_skipped : 5 ≤ w → w < 16 → length options ≡ 4 * w - 20 → 4 * w + 8 ≤ h * 256 + l → h * 256 + l ≤ 28 + length options + length data' + length more
      → (8 ≤ m * 256 + n → 4 * w + (m * 256 + n) ≤ h * 256 + l → ⊥) → (ports : Ports) (original : ℕ) → original ≤ length frame
      → kind_of ports original frame ≡ Kind.UdpLength
  udp_skipped low high between least inside unfit ports original whole =
      let stated = udp_length_lem low high between least inside in
      let long = carried_length low high between least inside in
      udp_length_is ports original frame (lengths low high between least inside original whole) (rw (stated, long) (λ x' y'. unfit x' (omega arith)))

-- ---- what is skipped, and why

-- the fragment bits: of the 16 at byte 6, all but the two highest
pub fragment_bits : (packet : List ℕ) → is_fragment packet ≡ not (eqb ((get_or packet 6 0 * 256 + get_or packet 7 0) % 16384) 0)
unfolding is_fragment
fragment_bits packet = go (get_or packet 6 0 * 256 + get_or packet 7 0)
  where
    go : (v : ℕ) → (eqb (v / 8192 % 2) 1 || not (eqb (v % 8192) 0)) ≡ not (eqb (v % 16384) 0)
    go v = more (eqb (v / 8192 % 2) 1) refl (eqb (v % 8192) 0) refl
      where
        more : (a : Bool) → eqb (v / 8192 % 2) 1 ≡ a → (b : Bool) → eqb (v % 8192) 0 ≡ b → (a || not b) ≡ not (eqb (v % 16384) 0)
        more true p b q = let e = eqb-true (v / 8192 % 2) 1 p in rw (ne_eqb (v % 16384) 0 (λ z. omega arith))
        more false p true q = let e = eqb-false (v / 8192 % 2) 1 p in let f = eqb-true (v % 8192) 0 q in rw (eq-eqb (v % 16384) 0 (omega arith))
        more false p false q = let f = eqb-false (v % 8192) 0 q in rw (ne_eqb (v % 16384) 0 (λ z. f (omega arith)))

module _ (d₁ d₂ d₃ d₄ d₅ d₆ s₁ s₂ s₃ s₄ s₅ s₆ : ℕ) (ports : Ports) (original : ℕ) where
  -- an EtherType other than 08 00; 81 00, that of a VLAN tag, is one
  pub type_skipped : (e f : ℕ) (packet : List ℕ) → f < 256 → (e ≡ 8 → f ≡ 0 → ⊥) → original ≤ 14 + length packet
      → kind_of ports original (d₁ ∷ d₂ ∷ d₃ ∷ d₄ ∷ d₅ ∷ d₆ ∷ s₁ ∷ s₂ ∷ s₃ ∷ s₄ ∷ s₅ ∷ s₆ ∷ e ∷ f ∷ packet) ≡ Kind.OtherType
  type_skipped e f packet byte other whole =
      other_type_is ports original (d₁ ∷ d₂ ∷ d₃ ∷ d₄ ∷ d₅ ∷ d₆ ∷ s₁ ∷ s₂ ∷ s₃ ∷ s₄ ∷ s₅ ∷ s₆ ∷ e ∷ f ∷ packet) (omega arith) (omega arith) (λ z. other (omega arith) (omega arith))

  -- fewer than 20 bytes behind EtherType 08 00, or a first byte outside 64 to 79: a version other than 4
  pub version_skipped : (v : ℕ) (packet : List ℕ) → (20 ≤ 1 + length packet → 64 ≤ v → v ≤ 79 → ⊥) → original ≤ 15 + length packet
      → kind_of ports original (d₁ ∷ d₂ ∷ d₃ ∷ d₄ ∷ d₅ ∷ d₆ ∷ s₁ ∷ s₂ ∷ s₃ ∷ s₄ ∷ s₅ ∷ s₆ ∷ 8 ∷ 0 ∷ v ∷ packet) ≡ Kind.NotIpv4
  version_skipped v packet other whole =
      not_ipv4_is ports original (d₁ ∷ d₂ ∷ d₃ ∷ d₄ ∷ d₅ ∷ d₆ ∷ s₁ ∷ s₂ ∷ s₃ ∷ s₄ ∷ s₅ ∷ s₆ ∷ 8 ∷ 0 ∷ v ∷ packet) (omega arith) (omega arith) refl
      (λ room e. other (omega arith) (omega arith) (omega arith))

  module _ (w t h l i j f o ttl protocol : ℕ) (rest : List ℕ) (high : w < 16) (room : 10 ≤ length rest) (whole : original ≤ 24 + length rest) where
    abbrev record' : List ℕ
    record' = d₁ ∷ d₂ ∷ d₃ ∷ d₄ ∷ d₅ ∷ d₆ ∷ s₁ ∷ s₂ ∷ s₃ ∷ s₄ ∷ s₅ ∷ s₆ ∷ 8 ∷ 0 ∷ (64 + w) ∷ t ∷ h ∷ l ∷ i ∷ j ∷ f ∷ o ∷ ttl ∷ protocol ∷ rest

    is_ipv4 : HoldsIpv4 original record'
    is_ipv4 = record { whole = omega arith; room = omega arith; ether = refl; version = omega arith }

    in_one_piece : f % 64 ≡ 0 → o ≡ 0 → is_fragment (packet_of record') ≡ false
    in_one_piece clear none = fragment_bits (packet_of record') ∙ rw (eq-eqb ((f * 256 + o) % 16384) 0 (omega arith))

    -- More Fragments (32), or a bit of the offset, whatever the protocol
    pub fragment_skipped : o < 256 → (f % 64 ≡ 0 → o ≡ 0 → ⊥) → kind_of ports original record' ≡ Kind.Fragment
    fragment_skipped byte set =
        fragment_is ports original record' is_ipv4
        (fragment_bits (packet_of record') ∙ rw (ne_eqb ((f * 256 + o) % 16384) 0 (λ z. set (omega arith) (omega arith))))

    -- a protocol other than 17
    pub protocol_skipped : f % 64 ≡ 0 → o ≡ 0 → (protocol ≡ 17 → ⊥) → kind_of ports original record' ≡ Kind.OtherProtocol
    protocol_skipped clear none other = other_protocol_is ports original record' is_ipv4 (in_one_piece clear none) other

    -- a header under 5 words, or over the total length; a total length above the record behind its 14 bytes
    pub lengths_skipped : f % 64 ≡ 0 → o ≡ 0 → protocol ≡ 17 → (5 ≤ w → 4 * w ≤ h * 256 + l → h * 256 + l ≤ 10 + length rest → ⊥)
        → kind_of ports original record' ≡ Kind.Ipv4Length
    lengths_skipped clear none udp unfit =
        ipv4_length_is ports original record' is_ipv4 (in_one_piece clear none) udp (λ x y z. unfit (omega arith) (omega arith) (omega arith))

-- "to two ports (the destination tells the direction ..)": the radio's before the IPS end's, and any other
pub port_kinds : (ports : Ports) (port : ℕ)
    → (port ≡ ports.radio → port_kind ports port ≡ Kind.Ips)
    × ((port ≡ ports.radio → ⊥) → port ≡ ports.ips → port_kind ports port ≡ Kind.Radio)
    × ((port ≡ ports.radio → ⊥) → (port ≡ ports.ips → ⊥) → port_kind ports port ≡ Kind.OtherPort)
port_kinds ports port = (
  λ e. rw (eq-eqb port ports.radio e),
  λ n e. rw (ne_eqb port ports.radio n, eq-eqb port ports.ips e),
  λ n m. rw (ne_eqb port ports.radio n, ne_eqb port ports.ips m),
)

carried_most : (packet : List ℕ) → length (carried_of packet) ≤ total_length packet - header_size packet
unfolding carried_of slice
carried_most packet = simp (length-drop, length-take) (omega arith)

-- of a record that holds a datagram, the header of IPv4 and UDP's length are within the total length: padding is never read
pub carried_fits : (original : ℕ) (frame : List ℕ) → HoldsUdp original frame → header_size (packet_of frame) + udp_length (carried_of (packet_of frame)) ≤ total_length (packet_of frame)
carried_fits original frame k = omega (arith, k.most, k.total, carried_most (packet_of frame))
