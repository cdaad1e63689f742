-- Document 02, §9: records in literal bytes, and what each adds at which of the 780 counts. "exact counts: records, datagrams of each end, each of refusals 1 to 11, and for
-- each channel packets, their bytes and windows granted (no Channel Identifier: channel 0)."
use Rattle.std.specs.Prelude.{List, [], ◌∷◌, ◌≡◌, ℕ, ◌+◌, length, set, replicate}
use Rattle.quantity.specs.declared.count.DatalinkId.{DatalinkId}
use Rattle.ethernet.specs.declared.Ports.{Ports}
use Rattle.census_laws.specs.Plain.{counted}

-- the radio is reached at port 1000 (3 232), the IPS end at 2000 (7 208)
abbrev pub ports : Ports
ports = record { radio = 1000; ips = 2000 }

abbrev pub datalink : DatalinkId
datalink = record { 0 = 7 }

-- a record by how many bytes there were and those that were kept, and the counts above 0 behind it: place and number
pub record Row : Type 0 where
  pub original : ℕ
  pub frame : List ℕ
  pub adds : List (ℕ × ℕ)

abbrev pub laid : List (ℕ × ℕ) → List ℕ → List ℕ
laid [] counts = counts
laid (add ∷ adds) counts = laid adds (set counts add.0 add.1)

-- every row is so, from zeros on
abbrev pub Adds : List Row → Type 0
Adds [] = Unit {0}
Adds (r ∷ rows) = (counted ports datalink r.original r.frame (replicate 780 0) ≡ laid r.adds (replicate 780 0)) × Adds rows

-- ---- a frame: two addresses, EtherType 08 00; version and header words, total length, flags, protocol, addresses; a source port, the destination, UDP's length; a datagram
-- of under 200 bytes
abbrev pub framed : (type first total flags protocol high low size : ℕ) → List ℕ → List ℕ
framed type first total flags protocol high low size datagram =
    1 ∷ 1 ∷ 1 ∷ 1 ∷ 1 ∷ 1 ∷ 2 ∷ 2 ∷ 2 ∷ 2 ∷ 2 ∷ 2 ∷ type ∷ 0
    ∷ first ∷ 0 ∷ 0 ∷ total ∷ 0 ∷ 0 ∷ flags ∷ 0 ∷ 64 ∷ protocol ∷ 0 ∷ 0 ∷ 10 ∷ 0 ∷ 0 ∷ 1 ∷ 10 ∷ 0 ∷ 0 ∷ 2
    ∷ 19 ∷ 136 ∷ high ∷ low ∷ 0 ∷ size ∷ 0 ∷ 0 ∷ datagram

-- a datagram to a port, in a frame that was kept whole
abbrev pub sent : (high low : ℕ) → List ℕ → List (ℕ × ℕ) → Row
sent high low datagram adds = record { original = 42 + length datagram; frame = framed 8 69 (28 + length datagram) 0 17 high low (8 + length datagram) datagram; adds = adds }

-- to the radio, and so the IPS end's; to the IPS end, and so the radio's
abbrev pub ips : List ℕ → List (ℕ × ℕ) → Row
ips datagram adds = sent 3 232 datagram adds

abbrev pub radio : List ℕ → List (ℕ × ℕ) → Row
radio datagram adds = sent 7 208 datagram adds

-- refused: the record, the end's datagram, and the number's place
abbrev pub refused_ips : (place : ℕ) → List ℕ → Row
refused_ips place datagram = ips datagram ((0, 1) ∷ (2, 1) ∷ (place, 1) ∷ [])

abbrev pub refused_radio : (place : ℕ) → List ℕ → Row
refused_radio place datagram = radio datagram ((0, 1) ∷ (3, 1) ∷ (place, 1) ∷ [])

-- a data message of the IPS end that the reader accepts, as far as its kind goes
abbrev pub carrying : (original type first total flags protocol high low size : ℕ) → List (ℕ × ℕ) → Row
carrying original type first total flags protocol high low size adds =
    record { original = original; frame = framed type first total flags protocol high low size (24 ∷ 1 ∷ 0 ∷ 1 ∷ 7 ∷ 128 ∷ 0 ∷ 3 ∷ 9 ∷ 9 ∷ 9 ∷ []); adds = adds }

abbrev pub table : List Row
table =
    -- DATA MESSAGES
    -- no Channel Identifier: channel 0; the bytes are those of Packet Data
    ips (24 ∷ 1 ∷ 0 ∷ 1 ∷ 7 ∷ 128 ∷ 0 ∷ 3 ∷ 9 ∷ 9 ∷ 9 ∷ []) ((0, 1) ∷ (2, 1) ∷ (15, 1) ∷ (16, 3) ∷ [])
    ∷ radio (24 ∷ 1 ∷ 0 ∷ 1 ∷ 7 ∷ 128 ∷ 0 ∷ 5 ∷ 9 ∷ 9 ∷ 9 ∷ 9 ∷ 9 ∷ []) ((0, 1) ∷ (3, 1) ∷ (15, 1) ∷ (16, 5) ∷ [])
    -- channels 0, 1, 9 and 254
    ∷ ips (24 ∷ 1 ∷ 0 ∷ 1 ∷ 7 ∷ 129 ∷ 0 ∷ 1 ∷ 0 ∷ 128 ∷ 0 ∷ 1 ∷ 9 ∷ []) ((0, 1) ∷ (2, 1) ∷ (15, 1) ∷ (16, 1) ∷ [])
    ∷ ips (24 ∷ 1 ∷ 0 ∷ 1 ∷ 7 ∷ 129 ∷ 0 ∷ 1 ∷ 1 ∷ 128 ∷ 0 ∷ 2 ∷ 9 ∷ 9 ∷ []) ((0, 1) ∷ (2, 1) ∷ (18, 1) ∷ (19, 2) ∷ [])
    ∷ radio (24 ∷ 1 ∷ 0 ∷ 1 ∷ 7 ∷ 129 ∷ 0 ∷ 1 ∷ 9 ∷ 128 ∷ 0 ∷ 4 ∷ 9 ∷ 9 ∷ 9 ∷ 9 ∷ []) ((0, 1) ∷ (3, 1) ∷ (42, 1) ∷ (43, 4) ∷ [])
    ∷ ips (24 ∷ 1 ∷ 0 ∷ 1 ∷ 7 ∷ 129 ∷ 0 ∷ 1 ∷ 254 ∷ 128 ∷ 0 ∷ 2 ∷ 9 ∷ 9 ∷ []) ((0, 1) ∷ (2, 1) ∷ (777, 1) ∷ (778, 2) ∷ [])
    -- a Flow Sequence adds nothing of its own, nor does an empty packet add bytes
    ∷ ips (24 ∷ 1 ∷ 0 ∷ 1 ∷ 7 ∷ 134 ∷ 0 ∷ 5 ∷ 2 ∷ 0 ∷ 0 ∷ 0 ∷ 9 ∷ 129 ∷ 0 ∷ 1 ∷ 2 ∷ 128 ∷ 0 ∷ 0 ∷ []) ((0, 1) ∷ (2, 1) ∷ (21, 1) ∷ [])
    -- CONTROL MESSAGES
    -- the IPS end's grants nothing
    ∷ ips (16 ∷ 1 ∷ 0 ∷ 1 ∷ 7 ∷ 134 ∷ 0 ∷ 5 ∷ 2 ∷ 0 ∷ 0 ∷ 0 ∷ 9 ∷ []) ((0, 1) ∷ (2, 1) ∷ [])
    -- the radio's: no Flow Window; one without the field; one with it, of 0 too; both, and channel 254
    ∷ radio (16 ∷ 1 ∷ 0 ∷ 1 ∷ 7 ∷ 5 ∷ 0 ∷ 2 ∷ 0 ∷ 3 ∷ []) ((0, 1) ∷ (3, 1) ∷ [])
    ∷ radio (16 ∷ 1 ∷ 0 ∷ 1 ∷ 7 ∷ 5 ∷ 0 ∷ 2 ∷ 0 ∷ 3 ∷ 6 ∷ 0 ∷ 1 ∷ 2 ∷ []) ((0, 1) ∷ (3, 1) ∷ [])
    ∷ radio (16 ∷ 1 ∷ 0 ∷ 1 ∷ 7 ∷ 5 ∷ 0 ∷ 2 ∷ 0 ∷ 3 ∷ 6 ∷ 0 ∷ 5 ∷ 0 ∷ 0 ∷ 0 ∷ 0 ∷ 0 ∷ []) ((0, 1) ∷ (3, 1) ∷ (17, 1) ∷ [])
    ∷ radio (16 ∷ 1 ∷ 0 ∷ 1 ∷ 7 ∷ 5 ∷ 0 ∷ 2 ∷ 0 ∷ 3 ∷ 6 ∷ 0 ∷ 5 ∷ 254 ∷ 0 ∷ 0 ∷ 1 ∷ 0 ∷ 6 ∷ 0 ∷ 1 ∷ 3 ∷ 6 ∷ 0 ∷ 5 ∷ 2 ∷ 0 ∷ 0 ∷ 0 ∷ 1 ∷ []) ((0, 1) ∷ (3, 1) ∷ (23, 1) ∷ (779, 1) ∷ [])
    -- REFUSED: number n at place 3 + n, of control and data messages of both ends
    -- 2: an empty datagram, and version 2; 3: an option past the end, and its frame; 4: a length of 2
    ∷ refused_ips 5 []
    ∷ refused_radio 5 (32 ∷ 1 ∷ 0 ∷ 1 ∷ 7 ∷ [])
    ∷ refused_ips 6 (16 ∷ 1 ∷ 0 ∷ 2 ∷ 7 ∷ [])
    ∷ refused_radio 6 (24 ∷ 1 ∷ 0 ∷ [])
    ∷ refused_ips 7 (16 ∷ 1 ∷ 0 ∷ 2 ∷ 7 ∷ 7 ∷ [])
    -- 5: Channel ID 255; 6: a Flow Window of the IPS end; 7: a Datalink Identifier twice; 8: an option after Packet Data
    ∷ refused_radio 8 (16 ∷ 1 ∷ 0 ∷ 1 ∷ 7 ∷ 5 ∷ 0 ∷ 2 ∷ 0 ∷ 3 ∷ 6 ∷ 0 ∷ 1 ∷ 255 ∷ [])
    ∷ refused_ips 9 (16 ∷ 1 ∷ 0 ∷ 1 ∷ 7 ∷ 6 ∷ 0 ∷ 1 ∷ 2 ∷ [])
    ∷ refused_radio 10 (16 ∷ 1 ∷ 0 ∷ 1 ∷ 7 ∷ 1 ∷ 0 ∷ 1 ∷ 7 ∷ [])
    ∷ refused_ips 11 (24 ∷ 128 ∷ 0 ∷ 1 ∷ 9 ∷ 1 ∷ 0 ∷ 1 ∷ 7 ∷ [])
    -- 9: no Channel Status, and no Packet Data; 10: a Flow Sequence without a Channel Identifier; 11: Datalink ID 8
    ∷ refused_radio 12 (16 ∷ 1 ∷ 0 ∷ 1 ∷ 7 ∷ [])
    ∷ refused_ips 12 (24 ∷ 1 ∷ 0 ∷ 1 ∷ 7 ∷ [])
    ∷ refused_ips 13 (24 ∷ 1 ∷ 0 ∷ 1 ∷ 7 ∷ 134 ∷ 0 ∷ 5 ∷ 2 ∷ 0 ∷ 0 ∷ 0 ∷ 9 ∷ 128 ∷ 0 ∷ 1 ∷ 9 ∷ [])
    ∷ refused_radio 14 (16 ∷ 1 ∷ 0 ∷ 1 ∷ 8 ∷ 5 ∷ 0 ∷ 2 ∷ 0 ∷ 3 ∷ 6 ∷ 0 ∷ 5 ∷ 2 ∷ 0 ∷ 0 ∷ 0 ∷ 1 ∷ [])
    ∷ refused_radio 14 (24 ∷ 1 ∷ 0 ∷ 1 ∷ 8 ∷ 128 ∷ 0 ∷ 1 ∷ 9 ∷ [])
    -- SKIPPED, beside one that isn't
    ∷ carrying 53 8 69 39 0 17 3 232 19 ((0, 1) ∷ (2, 1) ∷ (15, 1) ∷ (16, 3) ∷ [])
    -- shortened by the capture; a VLAN tag; versions 5 and 6; a header of four words
    ∷ carrying 54 8 69 39 0 17 3 232 19 ((0, 1) ∷ (1, 1) ∷ [])
    ∷ carrying 53 129 69 39 0 17 3 232 19 ((0, 1) ∷ (1, 1) ∷ [])
    ∷ carrying 53 8 85 39 0 17 3 232 19 ((0, 1) ∷ (1, 1) ∷ [])
    ∷ carrying 53 8 101 39 0 17 3 232 19 ((0, 1) ∷ (1, 1) ∷ [])
    ∷ carrying 53 8 68 39 0 17 3 232 19 ((0, 1) ∷ (1, 1) ∷ [])
    -- More Fragments; protocols 6 and 136; total length and UDP's length over the record by one
    ∷ carrying 53 8 69 39 32 17 3 232 19 ((0, 1) ∷ (1, 1) ∷ [])
    ∷ carrying 53 8 69 39 0 6 3 232 19 ((0, 1) ∷ (1, 1) ∷ [])
    ∷ carrying 53 8 69 39 0 136 3 232 19 ((0, 1) ∷ (1, 1) ∷ [])
    ∷ carrying 53 8 69 40 0 17 3 232 19 ((0, 1) ∷ (1, 1) ∷ [])
    ∷ carrying 53 8 69 39 0 17 3 232 20 ((0, 1) ∷ (1, 1) ∷ [])
    -- ports 1001 and 5000
    ∷ carrying 53 8 69 39 0 17 3 233 19 ((0, 1) ∷ (1, 1) ∷ [])
    ∷ carrying 53 8 69 39 0 17 19 136 19 ((0, 1) ∷ (1, 1) ∷ [])
    ∷ []
