-- A datagram's answer, by its plane. Assumes nothing.
use Rattle.meaning.specs.declared.message.Plane.{Plane}
use Rattle.std.specs.Prelude.{Ok, Err}
use mathlib.Core.Path.{◌≡◌}
use mathlib.Core.List.{List}
use Prim.Native.Nat.{ℕ}
use Rattle.quantity.specs.declared.count.DatalinkId.{DatalinkId}
use Rattle.quantity.specs.declared.refusal.Refusal.{Refusal}
use Rattle.meaning.specs.declared.message.End.{End}
use Rattle.reader.specs.Readings.{ControlReading, DataReading, read_control, read_data, packet_of, plane_of}
use Rattle.message_words.specs.Saying.{Says}
use Rattle.message_words.specs.Phrases.{refused_texts}
use Rattle.session_print.specs.Readings.{by_plane}

module _
    (on_control : ControlReading → List (List ℕ)) (on_data : DataReading → List ℕ → List (List ℕ)) (end : End) (id : DatalinkId) (datagram : List ℕ)
    {out : List ℕ} {at r : ℕ} {out' : List ℕ}
  where
    pub says_control : {reading : ControlReading} → plane_of datagram ≡ Ok Plane.Control → reading ≡ read_control end id datagram → Says out at (on_control reading) r out'
        → Says out at (by_plane on_control on_data end id datagram) r out'
    unfolding by_plane
    says_control e f k = rw (e, ← f) k

    pub says_data : {reading : DataReading} {packet : List ℕ} → plane_of datagram ≡ Ok Plane.Data → reading ≡ read_data end id datagram → packet ≡ packet_of datagram
        → Says out at (on_data reading packet) r out' → Says out at (by_plane on_control on_data end id datagram) r out'
    unfolding by_plane
    says_data e f g k = rw (e, ← f, ← g) k

    pub says_refused_lem : {refusal : Refusal} → plane_of datagram ≡ Err refusal → Says out at (refused_texts refusal) r out'
        → Says out at (by_plane on_control on_data end id datagram) r out'
    unfolding by_plane
    says_refused_lem e k = rw e k
