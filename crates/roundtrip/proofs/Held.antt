-- What is known of each option that an accepted message is said to hold. Assumes nothing.
use Rattle.std.specs.Prelude.{Option, Some, None}
use Prim.Native.Nat.{ℕ}
use mathlib.Core.Path.{◌≡◌, refl}
use mathlib.Core.List.{List, [], ◌∷◌, ◌++◌}
use mathlib.Core.Bool.{Bool, true, false, cond}
use native.Mathlib.Omega.{arith}
use borrow.Author.Tests.{eqb-true}
use lib.Dec.{eqb}
use lib.ListN.{length, drop}
use Rattle.facts.proofs.Tests.{clash}
use Rattle.quantity.specs.declared.count.DatalinkId.{DatalinkId}
use Rattle.wire.specs.Numbers.{Octets, big_endian, bytes_of}
use Rattle.wire.specs.Options.{Options, done, cut, option, bytes, option_bytes}
use Rattle.wire.proofs.Numbers.{big_endian_below}
use Rattle.meaning.specs.declared.message.End.{End}
use Rattle.meaning.specs.declared.message.Plane.{Plane}
use Rattle.meaning.specs.Kinds.{among, known, length_listed, value_listed, may_hold}
use Rattle.acceptance.specs.Account.{All, Listed, speaks, the, table_of, Accepts}
use Rattle.roundtrip.specs.Values.{Word}

pub record Held (plane : Plane) (end : End) (kind : ℕ) (content : List ℕ) : Type 0 where
  pub may_stand : among kind (may_hold plane end) ≡ true
  pub length_listed_lem : length_listed kind (length content) ≡ true
  pub value_listed_lem : value_listed kind content ≡ true
  pub octets : Octets content

-- what a place of a table holds
abbrev pub Holds : Plane → End → ℕ → Option (List ℕ) → Type 0
Holds plane end kind None = Unit {0}
Holds plane end kind (Some content) = Held plane end kind content

octets_front : (xs ys : List ℕ) → Octets (xs ++ ys) → Octets xs
octets_front [] ys o = tt
octets_front (x ∷ xs) ys o = (o.0, octets_front xs ys o.1)

octets_behind : (xs ys : List ℕ) → Octets (xs ++ ys) → Octets ys
octets_behind [] ys o = o
octets_behind (x ∷ xs) ys o = octets_behind xs ys o.1

-- an option that speaks for a type is of that type
of_type : (same speaking : Bool) → cond same speaking false ≡ true → same ≡ true
of_type true speaking e = refl
of_type false speaking e = clash e

module _ (plane : Plane) (end : End) (k n : ℕ) (is_Known : among k known ≡ true) where
  holds : (f : Options) → All (Listed plane end) f → Octets (bytes f) → Holds plane end k (the plane end k n f)
  unfolding the bytes option_bytes
  holds done l o = tt
  holds (cut rest) l o = absurd l
  holds (option kind content f) l o =
      let octets : Octets content = octets_behind (bytes_of 2 (length content)) content (octets_front (option_bytes kind content) (bytes f) o).1 in
      go (speaks plane end k n kind content) refl octets (holds f l.1 (octets_behind (option_bytes kind content) (bytes f) o))
    where
      go : (b : Bool) → speaks plane end k n kind content ≡ b → Octets content → Holds plane end k (the plane end k n f)
          → Holds plane end k (cond b (Some content) (the plane end k n f))
      go false e octets later = later
      go true e octets later =
          let same : k ≡ kind = eqb-true k kind (of_type (eqb k kind) _ e) in
          let listed : Listed plane end k content = rw same l.0 in
          record { may_stand = listed.kind_listed is_Known; length_listed_lem = listed.length_listed_lem is_Known; value_listed_lem = listed.value_listed_lem is_Known; octets = octets }

  pub table_holds : (id : DatalinkId) (s : List ℕ) (f : Options) → Octets s → Accepts plane end id s f → Holds plane end k (table_of plane end f k n)
  table_holds id s f o a = let octets : Octets (a.header ∷ bytes f) = rw a.whole at o in holds f a.listed octets.1

-- the number behind a Channel ID
pub word_behind : (content : List ℕ) → length content ≡ 5 → Octets content → Word (big_endian (drop 1 content))
word_behind [] l o = absurd (omega arith)
word_behind (channel ∷ behind) l o = let four : length behind ≡ 4 = omega arith in rw four at (big_endian_below behind o.1)
