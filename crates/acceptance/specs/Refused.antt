-- Document 01, "Numbers of refusal", those of reading, in plain numbers: each "given exactly when". Over the account, not over the order in which a reader
-- goes: "Reading: 1, 2, then the options one after another, each tested in the order 3, 8, 6, 4, 5, 7; then 9, 10, 11."
use Rattle.std.specs.Prelude.{ℕ, ◌/◌, ◌%◌, ◌≤◌, ◌<◌, ◌≡◌, List, [], ◌∷◌, length}
use Rattle.quantity.specs.declared.count.DatalinkId.{DatalinkId}
use Rattle.quantity.specs.declared.refusal.Refusal.{Refusal}
use Rattle.wire.specs.Options.{Options, bytes, WholeOptions}
use Rattle.meaning.specs.declared.message.End.{End}
use Rattle.meaning.specs.declared.message.Plane.{Plane}
use Rattle.meaning.specs.declared.message.Plane.TheVariants.{Control, Data}
use Rattle.meaning.specs.Kinds.{must_hold}
use Rattle.read_option.specs.Stated.{Table}
use Rattle.acceptance.specs.Account.{All, Listed, count, table_of, Ending, Filled, Paired, Ours}
use Rattle.acceptance.specs.Places.{AtOption}

-- 1: "datagram over 65,507 bytes"; 2: "header cut short (the empty datagram too) or not allowed by 3.1"
pub data InHeader (datagram : List ℕ) : ℕ → Type 0 where
  too_long : 65507 < length datagram → InHeader datagram 1
  no_header : datagram ≡ [] → InHeader datagram 2
  other_version : {header : ℕ} {body : List ℕ} → length datagram ≤ 65507 → datagram ≡ header ∷ body → (header / 16 ≡ 1 → ⊥) → InHeader datagram 2

-- the Data Plane flag
abbrev pub plane_bit : Plane → ℕ
plane_bit Control = 0
plane_bit Data = 1

-- neither 1 nor 2, and of this plane
pub record Opened (plane : Plane) (datagram : List ℕ) (header : ℕ) : Type 0 where
  pub short : length datagram ≤ 65507
  pub version : header / 16 ≡ 1
  pub of_plane : header / 8 % 2 ≡ plane_bit plane

-- what the whole lacks, `τ` being what its options say. 9: "a required option is missing"; 10: "Flow Sequence in a data message without
-- Channel Identifier, or of another channel"; 11: "Datalink ID isn't the configured one"
pub data Lack (plane : Plane) (e : End) (id : DatalinkId) (τ : Table) : ℕ → Type 0 where
  unfilled : (Filled (must_hold plane e) τ → ⊥) → Lack plane e id τ 9
  unpaired : Filled (must_hold plane e) τ → (Paired plane τ → ⊥) → Lack plane e id τ 10
  other_datalink : Filled (must_hold plane e) τ → Paired plane τ → (Ours id τ → ⊥) → Lack plane e id τ 11

-- no option has a fault, and the place is the datagram's length
pub record AtEnd (plane : Plane) (e : End) (id : DatalinkId) (datagram : List ℕ) (refusal : Refusal) : Type 0 where
  pub header : ℕ
  pub options : Options
  pub parts : datagram ≡ header ∷ bytes options
  pub whole : WholeOptions options
  pub listed : All (Listed plane e) options
  pub once : (kind channel : ℕ) → count plane e kind channel options ≤ 1
  pub ending : Ending plane options
  pub lack : Lack plane e id (table_of plane e options) refusal.number
  pub behind_all : refusal.place ≡ length datagram

pub data RefusedBy (plane : Plane) (e : End) (id : DatalinkId) (datagram : List ℕ) (refusal : Refusal) : Type 0 where
  in_header : InHeader datagram refusal.number → refusal.place ≡ 0 → RefusedBy plane e id datagram refusal
  in_option : (a : AtOption plane e datagram refusal) → Opened plane datagram a.header → RefusedBy plane e id datagram refusal
  in_whole : (a : AtEnd plane e id datagram refusal) → Opened plane datagram a.header → RefusedBy plane e id datagram refusal
