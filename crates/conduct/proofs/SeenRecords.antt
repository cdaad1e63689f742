-- What the judge says of its own work: which records it judged and which it skipped, and the two counts. Assumes nothing.
use mathlib.Core.Path.{◌≡◌, refl}
use mathlib.Core.List.{List, [], ◌∷◌}
use Prim.Native.Nat.{ℕ}
use Rattle.quantity.specs.declared.count.DatalinkId.{DatalinkId}
use Rattle.quantity.specs.declared.refusal.Refusal.{Refusal}
use Rattle.meaning.specs.declared.message.End.{End}
use Rattle.reader.specs.Readings.{Verdict, read_data}
use Rattle.records.specs.Files.{kept, refused}
use Rattle.ethernet.specs.declared.Kind.{Kind}
use Rattle.ethernet.specs.declared.Ports.{Ports}
use Rattle.ethernet.specs.Kinds.{kind_of}
use Rattle.ethernet.specs.Layers.{datagram_of}
use Rattle.conduct.specs.declared.verdict.Seen.{Seen}
use Rattle.conduct.specs.declared.verdict.Tally.{Tally}
use Rattle.conduct.specs.Outcomes.{seen_by, seen_of, tallied_by, tallied_all}

module _ (ports : Ports) (id : DatalinkId) (original : ℕ) (frame : List ℕ) where
  skipped_by : (kind : Kind) → kind_of ports original frame ≡ kind → (kind ≡ Kind.Ips → ⊥) → (kind ≡ Kind.Radio → ⊥) → seen_of ports id original frame ≡ Seen.Skipped
  unfolding seen_by
  skipped_by Kind.Ips e n m = absurd (n refl)
  skipped_by Kind.Radio e n m = absurd (m refl)
  skipped_by Kind.Shortened e n m = rw e
  skipped_by Kind.Short e n m = rw e
  skipped_by Kind.OtherType e n m = rw e
  skipped_by Kind.NotIpv4 e n m = rw e
  skipped_by Kind.Fragment e n m = rw e
  skipped_by Kind.OtherProtocol e n m = rw e
  skipped_by Kind.Ipv4Length e n m = rw e
  skipped_by Kind.UdpLength e n m = rw e
  skipped_by Kind.OtherPort e n m = rw e

  -- skipped is every record but a datagram of one of the ends
  pub seen_skipped : (kind_of ports original frame ≡ Kind.Ips → ⊥) → (kind_of ports original frame ≡ Kind.Radio → ⊥) → seen_of ports id original frame ≡ Seen.Skipped
  seen_skipped n m = skipped_by (kind_of ports original frame) refl n m

  -- a datagram of the radio is neither, whatever it says
  pub seen_radio : kind_of ports original frame ≡ Kind.Radio → seen_of ports id original frame ≡ Seen.Other
  unfolding seen_by
  seen_radio k = rw k

  -- judged is a data message of the IPS end that the reader accepts, and no other datagram of that end
  module _ (k : kind_of ports original frame ≡ Kind.Ips) where
    pub seen_judged : (read_data End.Ips id (datagram_of frame)).verdict ≡ Verdict.Accepted → seen_of ports id original frame ≡ Seen.Judged
    unfolding seen_by
    seen_judged v = rw (k, v)

    pub seen_refused : (refusal : Refusal) → (read_data End.Ips id (datagram_of frame)).verdict ≡ Verdict.Refused refusal → seen_of ports id original frame ≡ Seen.Other
    unfolding seen_by
    seen_refused refusal v = rw (k, v)

    pub seen_query : (read_data End.Ips id (datagram_of frame)).verdict ≡ Verdict.OtherPlane → seen_of ports id original frame ≡ Seen.Other
    unfolding seen_by
    seen_query v = rw (k, v)

-- ---- the two counts, in literal numbers
abbrev tally : (judged skipped : ℕ) → Tally
tally judged skipped = record { judged = judged; skipped = skipped }

pub tally_rows :
    (tallied_by (tally 3 5) Seen.Skipped ≡ tally 3 6) × (tallied_by (tally 3 5) Seen.Judged ≡ tally 4 5) × (tallied_by (tally 3 5) Seen.Other ≡ tally 3 5)
    × (tallied_by (tally 18446744073709551615 5) Seen.Judged ≡ tally 18446744073709551615 5)
    × (tallied_by (tally 3 18446744073709551615) Seen.Skipped ≡ tally 3 18446744073709551615)
tally_rows = (refl, refl, refl, refl, refl)

-- every record once, and a refusal not at all
pub tally_each : (ports : Ports) (id : DatalinkId) (a b number : ℕ) (first second : List ℕ) (before : Tally)
    → tallied_all ports id (kept a first ∷ kept b second ∷ refused number ∷ []) before ≡ tallied_by (tallied_by before (seen_of ports id a first)) (seen_of ports id b second)
unfolding tallied_all
tally_each ports id a b number first second before = refl
