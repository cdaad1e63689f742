-- What an accepted message is, and what it means: no order of tests, no place, nothing gathered on the way.
use Rattle.std.specs.Prelude.{ℕ, ◌+◌, ◌%◌, ◌≤◌, ◌≡◌, ◌⊎◌, List, [], ◌∷◌, Bool, true, false, cond, length, get_or, eqb, Option, Some, None}
use Rattle.quantity.specs.declared.count.DatalinkId.{DatalinkId}
use Rattle.quantity.specs.Limits.{LONGEST-DATAGRAM}
use Rattle.wire.specs.Options.{Options, done, cut, option, bytes}
use Rattle.meaning.specs.declared.message.End.{End}
use Rattle.meaning.specs.declared.message.Plane.{Plane}
use Rattle.meaning.specs.declared.message.Plane.TheVariants as planes
use Rattle.meaning.specs.declared.message.Control.{Control}
use Rattle.meaning.specs.declared.message.Data.{Data}
use Rattle.meaning.specs.Kinds.{among, known, length_listed, value_listed, may_hold, must_hold, stands_last, DATALINK-IDENTIFIER, CHANNEL-STATUS, CHANNEL-IDENTIFIER, FLOW-SEQUENCE}
use Rattle.read_option.specs.Stated.{Table, datalink_from, control_stated, data_stated}
use Rattle.read_rules.specs.Sorts.{channel_of}
use Rattle.reader.specs.Header.{CURRENT-VERSION, version_of, flag_of, flag}

-- every option has the property, and nothing is cut off
abbrev pub All : (ℕ → List ℕ → Type 0) → Options → Type 0
All P done = Unit {0}
All P (cut rest) = ⊥
All P (option kind content more) = P kind content × All P more

-- an option is unknown, or one that the message may hold, with a listed length and a value that has a meaning
pub record Listed (plane : Plane) (end : End) (kind : ℕ) (content : List ℕ) : Type 0 where
  pub kind_listed : among kind known ≡ true → among kind (may_hold plane end) ≡ true
  pub length_listed_lem : among kind known ≡ true → length_listed kind (length content) ≡ true
  pub value_listed_lem : among kind known ≡ true → value_listed kind content ≡ true

-- the channel for which an option speaks: `none` if it says nothing, 0 if it speaks for no channel
abbrev pub speaks_for : Plane → End → ℕ → List ℕ → Option ℕ
speaks_for plane end kind content = cond (among kind known) (cond (among kind (may_hold plane end)) (Some (channel_of plane kind content)) None) None

abbrev pub is_at : ℕ → Option ℕ → Bool
is_at n None = false
is_at n (Some m) = eqb n m

-- whether an option is one of type k for channel n
abbrev pub speaks : Plane → End → ℕ → ℕ → ℕ → List ℕ → Bool
speaks plane end k n kind content = cond (eqb k kind) (is_at n (speaks_for plane end kind content)) false

abbrev pub one : Bool → ℕ
one true = 1
one false = 0

-- how many options of type k for channel n there are
unfoldable pub count : Plane → End → ℕ → ℕ → Options → ℕ
count plane e k n done = 0
count plane e k n (cut rest) = 0
count plane e k n (option kind content more) = one (speaks plane e k n kind content) + count plane e k n more

-- the content of the option of type k for channel n
unfoldable pub the : Plane → End → ℕ → ℕ → Options → Option (List ℕ)
the plane e k n done = None
the plane e k n (cut rest) = None
the plane e k n (option kind content more) = cond (speaks plane e k n kind content) (Some content) (the plane e k n more)

-- an option of type k for channel n with this content stands somewhere
unfoldable pub Stands : Plane → End → ℕ → ℕ → List ℕ → Options → Type 0
Stands plane e k n content done = ⊥
Stands plane e k n content (cut rest) = ⊥
Stands plane e k n content (option kind other more) = ((speaks plane e k n kind other ≡ true) × (other ≡ content)) ⊎ Stands plane e k n content more

-- what the options say, for each type and channel
abbrev pub table_of : Plane → End → Options → Table
table_of plane e options = λ kind channel. the plane e kind channel options

-- what stands last has nothing behind it
abbrev pub Ending : Plane → Options → Type 0
Ending plane done = Unit {0}
Ending plane (cut rest) = Unit {0}
Ending plane (option kind content more) = (among kind (stands_last plane) ≡ true → more ≡ done) × Ending plane more

-- what must stand stands
abbrev pub Filled : List ℕ → Table → Type 0
Filled [] τ = Unit {0}
Filled (kind ∷ kinds) τ = (τ kind 0 ≡ None → ⊥) × Filled kinds τ

-- "Flow Sequence needs a Channel Identifier of the same channel", in a data message
abbrev pub SameChannel : Option (List ℕ) → Option (List ℕ) → Type 0
SameChannel None identifier = Unit {0}
SameChannel (Some sequence) None = ⊥
SameChannel (Some sequence) (Some identifier) = get_or sequence 0 0 ≡ get_or identifier 0 0

abbrev pub Paired : Plane → Table → Type 0
Paired planes.Control τ = Unit {0}
Paired planes.Data τ = SameChannel (τ FLOW-SEQUENCE 0) (τ CHANNEL-IDENTIFIER 0)

-- the Datalink ID is the configured one
abbrev pub Ours : DatalinkId → Table → Type 0
Ours id τ = datalink_from (τ DATALINK-IDENTIFIER 0) ≡ Some id

-- A datagram is accepted by a reader of a plane and an end that is configured with an ID, and these are its options:
-- it is a header that section 3.1 allows, of this plane, followed by whole options, each unknown or listed, none repeated where at most one
-- may stand, Packet Data last, what is required there, the Flow Sequence's channel the same, the Datalink ID the configured one.
pub record Accepts (plane : Plane) (e : End) (id : DatalinkId) (datagram : List ℕ) (options : Options) : Type 0 where
  pub header : ℕ
  pub version : version_of header ≡ CURRENT-VERSION
  pub of_plane : flag_of header ≡ flag plane
  pub whole : datagram ≡ header ∷ bytes options
  pub short : length datagram ≤ LONGEST-DATAGRAM
  pub listed : All (Listed plane e) options
  pub once : (kind channel : ℕ) → count plane e kind channel options ≤ 1
  pub ending : Ending plane options
  pub filled : Filled (must_hold plane e) (table_of plane e options)
  pub paired : Paired plane (table_of plane e options)
  pub ours : Ours id (table_of plane e options)

-- what the options of an accepted message state
abbrev pub control_meaning : End → Options → Control
control_meaning e options = control_stated (table_of planes.Control e options)

abbrev pub data_meaning : End → Options → Data
data_meaning e options = data_stated (table_of planes.Data e options)

-- the same options, but for their order, for the unused bits of a Channel Status, and for those that say nothing
pub data Shuffled (plane : Plane) (e : End) : Options → Options → Type 0 where
  same : {f : Options} → Shuffled plane e f f
  flip : {f g : Options} → Shuffled plane e f g → Shuffled plane e g f
  chain : {f g h : Options} → Shuffled plane e f g → Shuffled plane e g h → Shuffled plane e f h
  under : {t : ℕ} {c : List ℕ} {f g : Options} → Shuffled plane e f g → Shuffled plane e (option t c f) (option t c g)
  swap : {t u : ℕ} {c d : List ℕ} {f : Options} → Shuffled plane e (option t c (option u d f)) (option u d (option t c f))
  unused : {n a b : ℕ} {f : Options} → a % 16 ≡ b % 16 → Shuffled plane e (option CHANNEL-STATUS (n ∷ (a ∷ [])) f) (option CHANNEL-STATUS (n ∷ (b ∷ [])) f)
  skip : {t : ℕ} {c : List ℕ} {f : Options} → among t known ≡ false → Shuffled plane e (option t c f) f
