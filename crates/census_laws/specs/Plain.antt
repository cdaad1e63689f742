-- The counts in literal places: 0 all records, 1 those skipped, 2 datagrams of the IPS end, 3 those of the radio, 4 to 14 refusals 1 to 11, and for channel c 15 + 3 c
-- packets, 16 + 3 c their bytes, 17 + 3 c windows granted.
use Rattle.std.specs.Prelude.{List, [], ◌∷◌, ℕ, suc, ◌+◌, ◌*◌, min, get_or, set, Option, Some, None}
use Rattle.meaning.specs.declared.message.End.{End}
use Rattle.meaning.specs.declared.message.Window.{Window}
use Rattle.quantity.specs.declared.count.DatalinkId.{DatalinkId}
use Rattle.ethernet.specs.declared.Kind.{Kind}
use Rattle.ethernet.specs.declared.Ports.{Ports}
use Rattle.census.specs.Adding.{add_all}
use Rattle.census.specs.Outcomes.{outcome_of}
use Rattle.census.specs.Places.{adds_of}

-- what `count` leaves of the counts
abbrev pub counted : Ports → DatalinkId → (original : ℕ) (frame counts : List ℕ) → List ℕ
counted ports id original frame counts = add_all (adds_of (outcome_of ports id original frame)) counts

-- "Counts are unsigned 64 bits.": an amount more at a place, up to 2^64 - 1
abbrev pub more : (place amount : ℕ) → List ℕ → List ℕ
more place amount counts = set counts place (min 18446744073709551615 (get_or counts place 0 + amount))

-- "the destination tells the direction": the kind of a record with a datagram of an end, and where that is counted
abbrev pub kind_by : End → Kind
kind_by End.Ips = Kind.Ips
kind_by End.Radio = Kind.Radio

abbrev pub place_by : End → ℕ
place_by End.Ips = 2
place_by End.Radio = 3

-- "windows granted": one for each Flow Window with the field, from a channel on
abbrev pub granted : (channel : ℕ) → Option Window → List ℕ → List ℕ
granted channel None counts = counts
granted channel (Some Window.Empty) counts = counts
granted channel (Some (Window.Given window)) counts = more (17 + 3 * channel) 1 counts

unfoldable pub granted_from : (channel : ℕ) → List (Option Window) → List ℕ → List ℕ
granted_from channel [] counts = counts
granted_from channel (cell ∷ cells) counts = granted_from (suc channel) cells (granted channel cell counts)
