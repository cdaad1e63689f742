-- Which records are a shortened one, a fragment, and a datagram of either end: exactly those that hold what the kind says. Assumes nothing.
use mathlib.Core.Path.{◌≡◌, refl, sym, ap, ◌∙◌}
use mathlib.Core.Bool.{Bool, true, false, cond}
use mathlib.Core.List.{List, ◌++◌}
use Prim.Native.Nat.{ℕ, ◌+◌, ◌-◌, ◌≤◌, ◌<◌}
use native.Mathlib.Omega.{arith}
use borrow.Author.Tests.{lt-ltb, le-ltb, eq-eqb, ne_eqb, ltb-true, ltb-false, eqb-true, eqb-false}
use lib.Dec.{eqb, ltb}
use lib.ListN.{length, take, drop, length-drop}
use lib.Seq.{take-append-add, take-append_seam, take-take, drop-append_seam, drop_at}
use Rattle.octets.specs.Bytes.{slice}
use Rattle.ethernet.specs.declared.Kind.{Kind}
use Rattle.ethernet.specs.declared.Ports.{Ports}
use Rattle.ethernet.specs.Layers.{ether_type, packet_of, version_of, header_size, total_length, is_fragment, protocol_of, carried_of, destination_port, udp_length, datagram_of}
use Rattle.ethernet.proofs.Parts.{slice_most}
use Rattle.ethernet.specs.Kinds.{ETHERTYPE-IPV4, PROTOCOL-UDP, udp_kind, ipv4_kind, kind_of, port_kind, HoldsIpv4, HoldsUdp}

-- ---- what holds decides the kind

-- a packet in one piece with the protocol of UDP and lengths of IPv4 that fit the record
pub record HoldsLengths (original : ℕ) (frame : List ℕ) : Type 0 where
  pub ipv4 : HoldsIpv4 original frame
  pub one : is_fragment (packet_of frame) ≡ false
  pub protocol : protocol_of (packet_of frame) ≡ PROTOCOL-UDP
  pub header : 20 ≤ header_size (packet_of frame)
  pub total : header_size (packet_of frame) ≤ total_length (packet_of frame)
  pub inside : total_length (packet_of frame) ≤ length (packet_of frame)

module _ (ports : Ports) (original : ℕ) (frame : List ℕ) where
  pub shortened_is : length frame < original → kind_of ports original frame ≡ Kind.Shortened
  unfolding kind_of
  shortened_is h = simp (lt-ltb (length frame) original h)

  ipv4_is : HoldsIpv4 original frame → kind_of ports original frame ≡ ipv4_kind ports (packet_of frame)
  unfolding kind_of
  ipv4_is k = simp (le-ltb (length frame) original k.whole, le-ltb (length frame) 14 (omega (arith, k.room)), eq-eqb (ether_type frame) ETHERTYPE-IPV4 k.ether)

  -- behind 14 bytes of 34 there are 20
  room_is : HoldsIpv4 original frame → 20 ≤ length (packet_of frame)
  room_is k = simp length-drop (omega (arith, k.room))

  pub fragment_is : HoldsIpv4 original frame → is_fragment (packet_of frame) ≡ true → kind_of ports original frame ≡ Kind.Fragment
  unfolding ipv4_kind
  fragment_is k e = ipv4_is k ∙ simp (le-ltb (length (packet_of frame)) 20 (room_is k), eq-eqb (version_of (packet_of frame)) 4 k.version, e)

  pub udp_is : HoldsUdp original frame → kind_of ports original frame ≡ port_kind ports (destination_port (carried_of (packet_of frame)))
  unfolding ipv4_kind udp_kind
  udp_is k =
      let packet = packet_of frame in
      ipv4_is k.ipv4
      ∙ simp (le-ltb (length packet) 20 (room_is k.ipv4), eq-eqb (version_of packet) 4 k.ipv4.version, k.one, eq-eqb (protocol_of packet) PROTOCOL-UDP k.protocol, le-ltb (header_size packet) 20 k.header, le-ltb (total_length packet) (header_size packet) k.total, le-ltb (length packet) (total_length packet) k.inside, le-ltb (udp_length (carried_of packet)) 8 k.least, le-ltb (length (carried_of packet)) (udp_length (carried_of packet)) k.most)

  pub other_type_is : original ≤ length frame → 14 ≤ length frame → (ether_type frame ≡ ETHERTYPE-IPV4 → ⊥) → kind_of ports original frame ≡ Kind.OtherType
  unfolding kind_of
  other_type_is whole room n = simp (le-ltb (length frame) original whole, le-ltb (length frame) 14 room, ne_eqb (ether_type frame) ETHERTYPE-IPV4 n)

  pub not_ipv4_is : original ≤ length frame → 14 ≤ length frame → ether_type frame ≡ ETHERTYPE-IPV4 → (34 ≤ length frame → version_of (packet_of frame) ≡ 4 → ⊥)
      → kind_of ports original frame ≡ Kind.NotIpv4
  unfolding kind_of ipv4_kind
  not_ipv4_is whole room e n =
      simp (le-ltb (length frame) original whole, le-ltb (length frame) 14 room, eq-eqb (ether_type frame) ETHERTYPE-IPV4 e)
      (go _ (ltb (length (packet_of frame)) 20) refl (eqb (version_of (packet_of frame)) 4) refl)
    where
      behind : 20 ≤ length (packet_of frame) → 34 ≤ length frame
      behind h = let g : 20 ≤ length frame - 14 = simp length-drop at h in omega arith

      go : (kind : Kind) (a : Bool) → ltb (length (packet_of frame)) 20 ≡ a → (b : Bool) → eqb (version_of (packet_of frame)) 4 ≡ b
          → cond a Kind.NotIpv4 (cond b kind Kind.NotIpv4) ≡ Kind.NotIpv4
      go kind true pa b pb = refl
      go kind false pa false pb = refl
      go kind false pa true pb = absurd (n (behind (ltb-false _ _ pa)) (eqb-true _ _ pb))

  pub other_protocol_is : HoldsIpv4 original frame → is_fragment (packet_of frame) ≡ false → (protocol_of (packet_of frame) ≡ PROTOCOL-UDP → ⊥) → kind_of ports original frame ≡ Kind.OtherProtocol
  unfolding ipv4_kind
  other_protocol_is k e n =
      let packet = packet_of frame in
      ipv4_is k ∙ simp (le-ltb (length packet) 20 (room_is k), eq-eqb (version_of packet) 4 k.version, e, ne_eqb (protocol_of packet) PROTOCOL-UDP n)

  pub ipv4_length_is : HoldsIpv4 original frame → is_fragment (packet_of frame) ≡ false → protocol_of (packet_of frame) ≡ PROTOCOL-UDP
      → (20 ≤ header_size (packet_of frame) → header_size (packet_of frame) ≤ total_length (packet_of frame) → total_length (packet_of frame) ≤ length (packet_of frame) → ⊥)
      → kind_of ports original frame ≡ Kind.Ipv4Length
  unfolding ipv4_kind
  ipv4_length_is k e p n =
      let packet = packet_of frame in
      ipv4_is k
      ∙ simp (le-ltb (length packet) 20 (room_is k), eq-eqb (version_of packet) 4 k.version, e, eq-eqb (protocol_of packet) PROTOCOL-UDP p)
      (go (ltb (header_size packet) 20) refl (ltb (total_length packet) (header_size packet)) refl (ltb (length packet) (total_length packet)) refl)
    where
      go : (a : Bool) → ltb (header_size (packet_of frame)) 20 ≡ a → (b : Bool) → ltb (total_length (packet_of frame)) (header_size (packet_of frame)) ≡ b
          → (c : Bool) → ltb (length (packet_of frame)) (total_length (packet_of frame)) ≡ c
          → cond a Kind.Ipv4Length (cond b Kind.Ipv4Length (cond c Kind.Ipv4Length (udp_kind ports (carried_of (packet_of frame))))) ≡ Kind.Ipv4Length
      go true pa b pb c pc = refl
      go false pa true pb c pc = refl
      go false pa false pb true pc = refl
      go false pa false pb false pc = absurd (n (ltb-false _ _ pa) (ltb-false _ _ pb) (ltb-false _ _ pc))

  pub udp_length_is : HoldsLengths original frame → (8 ≤ udp_length (carried_of (packet_of frame)) → udp_length (carried_of (packet_of frame)) ≤ length (carried_of (packet_of frame)) → ⊥)
      → kind_of ports original frame ≡ Kind.UdpLength
  unfolding ipv4_kind udp_kind
  udp_length_is k n =
      let packet = packet_of frame in
      ipv4_is k.ipv4
      ∙ simp (le-ltb (length packet) 20 (room_is k.ipv4), eq-eqb (version_of packet) 4 k.ipv4.version, k.one, eq-eqb (protocol_of packet) PROTOCOL-UDP k.protocol, le-ltb (header_size packet) 20 k.header, le-ltb (total_length packet) (header_size packet) k.total, le-ltb (length packet) (total_length packet) k.inside)
      (go (ltb (udp_length (carried_of packet)) 8) refl (ltb (length (carried_of packet)) (udp_length (carried_of packet))) refl)
    where
      go : (a : Bool) → ltb (udp_length (carried_of (packet_of frame))) 8 ≡ a → (b : Bool) → ltb (length (carried_of (packet_of frame))) (udp_length (carried_of (packet_of frame))) ≡ b
          → cond a Kind.UdpLength (cond b Kind.UdpLength (port_kind ports (destination_port (carried_of (packet_of frame))))) ≡ Kind.UdpLength
      go true pa b pb = refl
      go false pa true pb = refl
      go false pa false pb = absurd (n (ltb-false _ _ pa) (ltb-false _ _ pb))

-- ---- the kind tells what holds

lt_not : {x y : ℕ} → x < y → y ≤ x → ⊥
lt_not p q = omega arith

module _ (ports : Ports) (original : ℕ) (frame : List ℕ) where
  -- by kind, in the order of tests
  abbrev pub Tells : Kind → Type 0
  Tells Kind.Shortened = length frame < original
  Tells Kind.Short = (original ≤ length frame) × (length frame < 14)
  Tells Kind.OtherType = (original ≤ length frame) × ((14 ≤ length frame) × (ether_type frame ≡ ETHERTYPE-IPV4 → ⊥))
  Tells Kind.NotIpv4 = (original ≤ length frame) × ((14 ≤ length frame) × ((ether_type frame ≡ ETHERTYPE-IPV4) × (34 ≤ length frame → version_of (packet_of frame) ≡ 4 → ⊥)))
  Tells Kind.Fragment = HoldsIpv4 original frame × (is_fragment (packet_of frame) ≡ true)
  Tells Kind.OtherProtocol = HoldsIpv4 original frame × ((is_fragment (packet_of frame) ≡ false) × (protocol_of (packet_of frame) ≡ PROTOCOL-UDP → ⊥))
  Tells Kind.Ipv4Length =
      HoldsIpv4 original frame × ((is_fragment (packet_of frame) ≡ false) × ((protocol_of (packet_of frame) ≡ PROTOCOL-UDP)
      × (20 ≤ header_size (packet_of frame) → header_size (packet_of frame) ≤ total_length (packet_of frame) → total_length (packet_of frame) ≤ length (packet_of frame) → ⊥)))
  Tells Kind.UdpLength =
      HoldsLengths original frame × (8 ≤ udp_length (carried_of (packet_of frame)) → udp_length (carried_of (packet_of frame)) ≤ length (carried_of (packet_of frame)) → ⊥)
  Tells Kind.OtherPort =
      HoldsUdp original frame × ((destination_port (carried_of (packet_of frame)) ≡ ports.radio → ⊥) × (destination_port (carried_of (packet_of frame)) ≡ ports.ips → ⊥))
  Tells Kind.Ips = HoldsUdp original frame × (destination_port (carried_of (packet_of frame)) ≡ ports.radio)
  Tells Kind.Radio = HoldsUdp original frame × (destination_port (carried_of (packet_of frame)) ≡ ports.ips)

  port_tells : HoldsUdp original frame → Tells (port_kind ports (destination_port (carried_of (packet_of frame))))
  port_tells k = go (eqb (destination_port (carried_of (packet_of frame))) ports.radio) refl (eqb (destination_port (carried_of (packet_of frame))) ports.ips) refl
    where
      go : (a : Bool) → eqb (destination_port (carried_of (packet_of frame))) ports.radio ≡ a → (b : Bool) → eqb (destination_port (carried_of (packet_of frame))) ports.ips ≡ b
          → Tells (cond a Kind.Ips (cond b Kind.Radio Kind.OtherPort))
      go true p b q = (k, eqb-true (destination_port (carried_of (packet_of frame))) ports.radio p)
      go false p true q = (k, eqb-true (destination_port (carried_of (packet_of frame))) ports.ips q)
      go false p false q = (k, (eqb-false (destination_port (carried_of (packet_of frame))) ports.radio p, eqb-false (destination_port (carried_of (packet_of frame))) ports.ips q))

  udp_tells : HoldsLengths original frame → Tells (udp_kind ports (carried_of (packet_of frame)))
  unfolding udp_kind
  udp_tells k = go (ltb (udp_length carried) 8) refl (ltb (length carried) (udp_length carried)) refl
    where
      carried : List ℕ
      carried = carried_of (packet_of frame)

      go : (a : Bool) → ltb (udp_length carried) 8 ≡ a → (b : Bool) → ltb (length carried) (udp_length carried) ≡ b
          → Tells (cond a Kind.UdpLength (cond b Kind.UdpLength (port_kind ports (destination_port carried))))
      go true p b q = (k, λ least most. lt_not (ltb-true (udp_length carried) 8 p) least)
      go false p true q = (k, λ least most. lt_not (ltb-true (length carried) (udp_length carried) q) most)
      go false p false q = port_tells (record {
        ipv4 = k.ipv4;
        one = k.one;
        protocol = k.protocol;
        header = k.header;
        total = k.total;
        inside = k.inside;
        least = ltb-false (udp_length carried) 8 p;
        most = ltb-false (length carried) (udp_length carried) q;
      })

  ipv4_tells : original ≤ length frame → 14 ≤ length frame → ether_type frame ≡ ETHERTYPE-IPV4 → Tells (ipv4_kind ports (packet_of frame))
  unfolding ipv4_kind
  ipv4_tells whole enough ether =
      go (ltb (length inner) 20) refl (eqb (version_of inner) 4) refl (is_fragment inner) refl (eqb (protocol_of inner) PROTOCOL-UDP) refl
      (ltb (header_size inner) 20) refl (ltb (total_length inner) (header_size inner)) refl (ltb (length inner) (total_length inner)) refl
    where
      inner : List ℕ
      inner = packet_of frame

      ahead : 34 ≤ length frame → 20 ≤ length inner
      ahead room = simp length-drop (omega arith)

      behind : 20 ≤ length (packet_of frame) → 34 ≤ length frame
      behind h = let g : 20 ≤ length frame - 14 = simp length-drop at h in omega arith

      f : ltb (length inner) 20 ≡ false → eqb (version_of inner) 4 ≡ true → HoldsIpv4 original frame
      f pa pb = record { whole = whole; room = behind (ltb-false (length inner) 20 pa); ether = ether; version = eqb-true (version_of inner) 4 pb }

      go : (a : Bool) → ltb (length inner) 20 ≡ a → (b : Bool) → eqb (version_of inner) 4 ≡ b → (c : Bool) → is_fragment inner ≡ c
          → (d : Bool) → eqb (protocol_of inner) PROTOCOL-UDP ≡ d → (e : Bool) → ltb (header_size inner) 20 ≡ e
          → (g : Bool) → ltb (total_length inner) (header_size inner) ≡ g → (h : Bool) → ltb (length inner) (total_length inner) ≡ h
          → Tells (cond a Kind.NotIpv4 (cond b (cond c Kind.Fragment (cond d (cond e Kind.Ipv4Length (cond g Kind.Ipv4Length (cond h Kind.Ipv4Length (udp_kind ports (carried_of inner))))) Kind.OtherProtocol)) Kind.NotIpv4))
      go true pa b pb c pc d pd e pe g pg h ph = (whole, (enough, (ether, λ room version. lt_not (ltb-true (length inner) 20 pa) (ahead room))))
      go false pa false pb c pc d pd e pe g pg h ph = (whole, (enough, (ether, λ room version. eqb-false (version_of inner) 4 pb version)))
      go false pa true pb true pc d pd e pe g pg h ph = (f pa pb, pc)
      go false pa true pb false pc false pd e pe g pg h ph = (f pa pb, (pc, eqb-false (protocol_of inner) PROTOCOL-UDP pd))
      go false pa true pb false pc true pd true pe g pg h ph = (f pa pb, (pc, (eqb-true (protocol_of inner) PROTOCOL-UDP pd, λ x y z. lt_not (ltb-true (header_size inner) 20 pe) x)))
      go false pa true pb false pc true pd false pe true pg h ph = (f pa pb, (pc, (eqb-true (protocol_of inner) PROTOCOL-UDP pd, λ x y z. lt_not (ltb-true (total_length inner) (header_size inner) pg) y)))
      go false pa true pb false pc true pd false pe false pg true ph = (f pa pb, (pc, (eqb-true (protocol_of inner) PROTOCOL-UDP pd, λ x y z. lt_not (ltb-true (length inner) (total_length inner) ph) z)))
      go false pa true pb false pc true pd false pe false pg false ph =
          udp_tells (record {
            ipv4 = f pa pb;
            one = pc;
            protocol = eqb-true (protocol_of inner) PROTOCOL-UDP pd;
            header = ltb-false (header_size inner) 20 pe;
            total = ltb-false (total_length inner) (header_size inner) pg;
            inside = ltb-false (length inner) (total_length inner) ph;
          })

  -- what a record's kind says is so
  pub kind_tells : Tells (kind_of ports original frame)
  unfolding kind_of
  kind_tells = go (ltb (length frame) original) refl (ltb (length frame) 14) refl (eqb (ether_type frame) ETHERTYPE-IPV4) refl
    where
      go : (a : Bool) → ltb (length frame) original ≡ a → (b : Bool) → ltb (length frame) 14 ≡ b → (c : Bool) → eqb (ether_type frame) ETHERTYPE-IPV4 ≡ c
          → Tells (cond a Kind.Shortened (cond b Kind.Short (cond c (ipv4_kind ports (packet_of frame)) Kind.OtherType)))
      go true pa b pb c pc = ltb-true (length frame) original pa
      go false pa true pb c pc = (ltb-false (length frame) original pa, ltb-true (length frame) 14 pb)
      go false pa false pb false pc = (ltb-false (length frame) original pa, (ltb-false (length frame) 14 pb, eqb-false (ether_type frame) ETHERTYPE-IPV4 pc))
      go false pa false pb true pc = ipv4_tells (ltb-false (length frame) original pa) (ltb-false (length frame) 14 pb) (eqb-true (ether_type frame) ETHERTYPE-IPV4 pc)

-- ---- the datagram of a record that holds one is 42 bytes shorter than it, or more: the three headers

pub datagram_short : (original : ℕ) (frame : List ℕ) → HoldsUdp original frame → length (datagram_of frame) + 42 ≤ length frame
unfolding datagram_of carried_of
datagram_short original frame k =
    let inner : List ℕ = packet_of frame in
    let carried : List ℕ = slice (header_size inner) (total_length inner) inner in
    let a : length carried ≤ length inner - header_size inner = slice_most (header_size inner) (total_length inner) inner in
    let b : length (slice 8 (udp_length carried) carried) ≤ length carried - 8 = slice_most 8 (udp_length carried) carried in
    let d : length inner ≡ length frame - 14 = length-drop 14 frame in
    let e : 8 ≤ length carried = ≤-of k.least k.most in
    go (length frame) (length inner) (header_size inner) (length carried) (length (slice 8 (udp_length carried) carried)) k.header (≤-of k.total k.inside) a e b d
  where
    ≤-of : {x y z : ℕ} → x ≤ y → y ≤ z → x ≤ z
    ≤-of p q = omega arith

    go : (f i h c d : ℕ) → 20 ≤ h → h ≤ i → c ≤ i - h → 8 ≤ c → d ≤ c - 8 → i ≡ f - 14 → d + 42 ≤ f
    go f i h c d p q r s t u = omega arith

-- ---- the datagram of a record that is put together from its layers: the header of IPv4 with its options, the header of UDP, the data, and whatever
-- stands behind it

pub in_layers : (frame head udp data' more : List ℕ) → packet_of frame ≡ head ++ (udp ++ (data' ++ more)) → length head ≡ header_size (packet_of frame) → length udp ≡ 8
    → length head + (8 + length data') ≤ total_length (packet_of frame) → udp_length (carried_of (packet_of frame)) ≡ 8 + length data' → datagram_of frame ≡ data'
unfolding datagram_of carried_of slice
in_layers frame head udp data' more e h u t l =
    let rest : List ℕ = udp ++ (data' ++ more) in
    let k : ℕ = total_length (packet_of frame) - length head in
    let n : ℕ = length data' in
    let total : total_length (packet_of frame) ≡ length head + k = omega arith in
    let front : take (total_length (packet_of frame)) (packet_of frame) ≡ head ++ take k rest =
    ap (λ (m : ℕ). take m (packet_of frame)) total ∙ ap (take (length head + k)) e ∙ take-append-add head rest k in
    let carried : drop (header_size (packet_of frame)) (take (total_length (packet_of frame)) (packet_of frame)) ≡ take k rest =
    ap (λ (m : ℕ). drop m (take (total_length (packet_of frame)) (packet_of frame))) (sym h) ∙ ap (drop (length head)) front ∙ drop-append_seam head (take k rest) in
    let whole : List ℕ = drop (header_size (packet_of frame)) (take (total_length (packet_of frame)) (packet_of frame)) in
    let size : 8 + n ≡ length udp + n = ap (λ (m : ℕ). m + n) (sym u) in
    let held : take (8 + n) (take k rest) ≡ udp ++ take n (data' ++ more) =
    take-take (8 + n) k rest (omega arith) ∙ ap (λ (m : ℕ). take m rest) size ∙ take-append-add udp (data' ++ more) n in
    ap (λ (m : ℕ). drop 8 (take m whole)) l
    ∙ ap (λ (b : List ℕ). drop 8 (take (8 + n) b)) carried
    ∙ ap (drop 8) held
    ∙ drop_at udp (take n (data' ++ more)) 8 u
    ∙ take-append_seam data' more
