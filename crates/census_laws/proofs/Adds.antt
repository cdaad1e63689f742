-- What any record adds, by its kind and by what the reader says of its datagram, in literal places. Assumes nothing.
use Rattle.meaning.specs.declared.message.Plane.{Plane}
use Rattle.std.specs.Prelude.{Option, Some, None, Ok, Err}
use mathlib.Core.Path.{◌≡◌, refl, ◌∙◌}
use mathlib.Core.List.{List, [], ◌∷◌, ◌++◌}
use Prim.Native.Nat.{ℕ, suc, ◌+◌, ◌*◌}
use lib.ListN.{length}
use Rattle.quantity.specs.declared.count.DatalinkId.{DatalinkId}
use Rattle.quantity.specs.declared.refusal.Refusal.{Refusal}
use Rattle.meaning.specs.declared.message.End.{End}
use Rattle.meaning.specs.declared.message.Window.{Window}
use Rattle.reader.specs.Readings.{Verdict, read_control, read_data, packet_of, plane_of}
use Rattle.ethernet.specs.declared.Kind.{Kind}
use Rattle.ethernet.specs.declared.Ports.{Ports}
use Rattle.ethernet.specs.Layers.{datagram_of}
use Rattle.ethernet.specs.Kinds.{kind_of}
use Rattle.census.specs.Adding.{Add, add_all}
use Rattle.census.specs.Outcomes.{reading_of, outcome_of}
use Rattle.census.specs.Places.{window_adds, windows_from, reading_adds}
use Rattle.census_laws.specs.Plain.{counted, more, kind_by, place_by, granted, granted_from}

-- the windows of a table, one after another
window_granted : (channel : ℕ) (window : Option Window) (adds : List Add) (counts : List ℕ) → add_all (window_adds channel window ++ adds) counts ≡ add_all adds (granted channel window counts)
unfolding add_all
window_granted channel None adds counts = refl
window_granted channel (Some Window.Empty) adds counts = refl
window_granted channel (Some (Window.Given window)) adds counts = refl

windows_granted : (channel : ℕ) (cells : List (Option Window)) (counts : List ℕ) → add_all (windows_from channel cells) counts ≡ granted_from channel cells counts
unfolding add_all windows_from granted_from
windows_granted channel [] counts = refl
windows_granted channel (cell ∷ cells) counts =
    window_granted channel cell (windows_from (suc channel) cells) counts
    ∙ windows_granted (suc channel) cells (granted channel cell counts)

module _ (ports : Ports) (id : DatalinkId) (original : ℕ) (frame counts : List ℕ) where
  skipped_by : (kind : Kind) → kind_of ports original frame ≡ kind → (kind ≡ Kind.Ips → ⊥) → (kind ≡ Kind.Radio → ⊥)
      → counted ports id original frame counts ≡ more 1 1 (more 0 1 counts)
  unfolding outcome_of add_all
  skipped_by Kind.Ips e n m = absurd (n refl)
  skipped_by Kind.Radio e n m = absurd (m refl)
  skipped_by Kind.Shortened e n m = rw e
  skipped_by Kind.Short e n m = rw e
  skipped_by Kind.OtherType e n m = rw e
  skipped_by Kind.NotIpv4 e n m = rw e
  skipped_by Kind.Fragment e n m = rw e
  skipped_by Kind.OtherProtocol e n m = rw e
  skipped_by Kind.Ipv4Length e n m = rw e
  skipped_by Kind.UdpLength e n m = rw e
  skipped_by Kind.OtherPort e n m = rw e

  -- a record of any kind but a datagram of either end
  pub skipped_adds : (kind_of ports original frame ≡ Kind.Ips → ⊥) → (kind_of ports original frame ≡ Kind.Radio → ⊥)
      → counted ports id original frame counts ≡ more 1 1 (more 0 1 counts)
  skipped_adds n m = skipped_by (kind_of ports original frame) refl n m

  -- a datagram of an end, and what it is read as
  sent_adds : (end : End) → kind_of ports original frame ≡ kind_by end
      → counted ports id original frame counts ≡ add_all (reading_adds end (reading_of end id (datagram_of frame))) (more (place_by end) 1 (more 0 1 counts))
  unfolding outcome_of add_all
  sent_adds End.Ips e = rw e
  sent_adds End.Radio e = rw e

  module _ (end : End) (e : kind_of ports original frame ≡ kind_by end) where
    -- refused by its header, or as a control or data message: at the number's place
    pub header_adds : (refusal : Refusal) → plane_of (datagram_of frame) ≡ Err refusal
        → counted ports id original frame counts ≡ more (3 + refusal.number) 1 (more (place_by end) 1 (more 0 1 counts))
    unfolding reading_of add_all
    header_adds refusal p = sent_adds end e ∙ rw p

    pub control_refused_adds : plane_of (datagram_of frame) ≡ Ok Plane.Control → (refusal : Refusal) → (read_control end id (datagram_of frame)).verdict ≡ Verdict.Refused refusal
        → counted ports id original frame counts ≡ more (3 + refusal.number) 1 (more (place_by end) 1 (more 0 1 counts))
    unfolding reading_of add_all
    control_refused_adds p refusal v = sent_adds end e ∙ rw (p, v)

    pub data_refused_adds : plane_of (datagram_of frame) ≡ Ok Plane.Data → (refusal : Refusal) → (read_data end id (datagram_of frame)).verdict ≡ Verdict.Refused refusal
        → counted ports id original frame counts ≡ more (3 + refusal.number) 1 (more (place_by end) 1 (more 0 1 counts))
    unfolding reading_of add_all
    data_refused_adds p refusal v = sent_adds end e ∙ rw (p, v)

    -- an accepted data message: a packet, and the bytes of Packet Data
    pub packet_adds_lem : plane_of (datagram_of frame) ≡ Ok Plane.Data → (read_data end id (datagram_of frame)).verdict ≡ Verdict.Accepted
        → (channel : ℕ) → (read_data end id (datagram_of frame)).message.channel ≡ Some channel
        → counted ports id original frame counts
        ≡ more (16 + 3 * channel) (length (packet_of (datagram_of frame))) (more (15 + 3 * channel) 1 (more (place_by end) 1 (more 0 1 counts)))
    unfolding reading_of add_all
    packet_adds_lem p v channel c = sent_adds end e ∙ rw (p, v, c)

    -- "no Channel Identifier: channel 0"
    pub unnamed_adds : plane_of (datagram_of frame) ≡ Ok Plane.Data → (read_data end id (datagram_of frame)).verdict ≡ Verdict.Accepted
        → (read_data end id (datagram_of frame)).message.channel ≡ None
        → counted ports id original frame counts ≡ more 16 (length (packet_of (datagram_of frame))) (more 15 1 (more (place_by end) 1 (more 0 1 counts)))
    unfolding reading_of add_all
    unnamed_adds p v c = sent_adds end e ∙ rw (p, v, c)

  -- an accepted control message: the IPS end's grants nothing, the radio's each window that it states
  pub query_adds : kind_of ports original frame ≡ Kind.Ips → plane_of (datagram_of frame) ≡ Ok Plane.Control → (read_control End.Ips id (datagram_of frame)).verdict ≡ Verdict.Accepted
      → counted ports id original frame counts ≡ more 2 1 (more 0 1 counts)
  unfolding reading_of add_all
  query_adds e p v = sent_adds End.Ips e ∙ rw (p, v)

  pub granted_adds_lem : kind_of ports original frame ≡ Kind.Radio → plane_of (datagram_of frame) ≡ Ok Plane.Control → (read_control End.Radio id (datagram_of frame)).verdict ≡ Verdict.Accepted
      → counted ports id original frame counts ≡ granted_from 0 (read_control End.Radio id (datagram_of frame)).message.windows (more 3 1 (more 0 1 counts))
  unfolding reading_of
  granted_adds_lem e p v =
      sent_adds End.Radio e ∙ rw (p, v) (windows_granted 0 (read_control End.Radio id (datagram_of frame)).message.windows (more 3 1 (more 0 1 counts)))
