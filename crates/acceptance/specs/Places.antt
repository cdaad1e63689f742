-- Where the fault of a refused message stands. Document 01: "Place: the option's first byte for 3 to 8, the datagram's length for 9 to 11, 0 for all others."
use Rattle.std.specs.Prelude.{ℕ, ◌+◌, ◌≤◌, ◌<◌, ◌≡◌, List, ◌∷◌, ◌++◌, true, false, length, None}
use Rattle.quantity.specs.declared.refusal.Refusal.{Refusal}
use Rattle.quantity.specs.Refusals.{HEADER, CUT, BEHIND-PACKET, MISSING, OTHER-DATALINK}
use Rattle.wire.specs.Options.{Options, cut, option, bytes, split, WholeOptions}
use Rattle.meaning.specs.declared.message.End.{End}
use Rattle.meaning.specs.declared.message.Plane.{Plane}
use Rattle.meaning.specs.declared.message.Plane.TheVariants as planes
use Rattle.meaning.specs.Kinds.{among, known, length_listed, value_listed, may_hold}
use Rattle.read_option.specs.Stated.{Table}
use Rattle.read_rules.specs.Sorts.{channel_of}
use Rattle.acceptance.specs.Account.{All, Listed, count, table_of, Ending}

-- number 8: Packet Data (128) stands already; a control message has none
abbrev pub Behind : Plane → Table → Type 0
Behind planes.Control τ = ⊥
Behind planes.Data τ = τ 128 0 ≡ None → ⊥

-- The first fault of the first option of a rest, `τ` being what the options before it say: "each tested in the order 3, 8, 6, 4, 5, 7".
-- Each number stands with what its line of "Numbers of refusal" says, and with no number before it in this order.
pub data Fault (plane : Plane) (e : End) (τ : Table) : ℕ → Options → Type 0 where
  cut_off_lem : {rest : List ℕ} → Fault plane e τ 3 (cut rest)
  behind_packet_lem : {kind : ℕ} {content : List ℕ} {more : Options} → Behind plane τ → Fault plane e τ 8 (option kind content more)
  unlisted : {kind : ℕ} {content : List ℕ} {more : Options} → (Behind plane τ → ⊥) → among kind known ≡ true → among kind (may_hold plane e) ≡ false
      → Fault plane e τ 6 (option kind content more)
  other_length : {kind : ℕ} {content : List ℕ} {more : Options} → (Behind plane τ → ⊥) → among kind known ≡ true → among kind (may_hold plane e) ≡ true
      → length_listed kind (length content) ≡ false → Fault plane e τ 4 (option kind content more)
  meaningless : {kind : ℕ} {content : List ℕ} {more : Options} → (Behind plane τ → ⊥) → among kind known ≡ true → among kind (may_hold plane e) ≡ true
      → length_listed kind (length content) ≡ true → value_listed kind content ≡ false → Fault plane e τ 5 (option kind content more)
  repeated : {kind : ℕ} {content : List ℕ} {more : Options} → (Behind plane τ → ⊥) → among kind known ≡ true → Listed plane e kind content
      → (τ kind (channel_of plane kind content) ≡ None → ⊥) → Fault plane e τ 7 (option kind content more)

-- "the first found is reported": the options before it have no fault, and the place is its first byte, a byte of the datagram
pub record AtOption (plane : Plane) (e : End) (datagram : List ℕ) (refusal : Refusal) : Type 0 where
  pub header : ℕ
  pub before : Options
  pub rest : List ℕ
  pub parts : datagram ≡ header ∷ (bytes before ++ rest)
  pub whole : WholeOptions before
  pub listed : All (Listed plane e) before
  pub once : (kind channel : ℕ) → count plane e kind channel before ≤ 1
  pub ending : Ending plane before
  pub fault : Fault plane e (table_of plane e before) refusal.number (split rest)
  pub first_byte : refusal.place ≡ 1 + length (bytes before)
  pub inside : refusal.place < length datagram

pub record PlacedAt (plane : Plane) (e : End) (datagram : List ℕ) (refusal : Refusal) : Type 0 where
  pub in_header : refusal.number ≤ HEADER → refusal.place ≡ 0
  pub in_option : CUT ≤ refusal.number → refusal.number ≤ BEHIND-PACKET → AtOption plane e datagram refusal
  pub in_whole : MISSING ≤ refusal.number → refusal.number ≤ OTHER-DATALINK → refusal.place ≡ length datagram
