-- What the table of an accepted radio control message says of a channel, by the options that stand in the message. Assumes nothing.
use Rattle.std.specs.Prelude.{Option, Some, None}
use Prim.Native.Nat.{ℕ}
use mathlib.Core.Bool.{Bool, true, false, cond}
use mathlib.Core.List.{List, [], ◌∷◌}
use mathlib.Core.Logic.{◌↔◌, inl, inr}
use mathlib.Core.Path.{◌≡◌, refl, sym, ◌∙◌}
use borrow.Author.Tests.{eq-eqb, eqb-true}
use lib.Dec.{eqb}
use lib.ListN.{get_or}
use Rattle.facts.proofs.Tests.{clash}
use Rattle.quantity.specs.declared.count.DatalinkId.{DatalinkId}
use Rattle.wire.specs.Options.{Options, done, cut, option}
use Rattle.meaning.specs.declared.message.End.TheVariants as ends
use Rattle.meaning.specs.declared.message.Plane.TheVariants as planes
use Rattle.meaning.specs.Kinds.{among, known, may_hold, one_for_each, length_listed}
use Rattle.acceptance.specs.Account.{All, Listed, speaks_for, is_at, speaks, Stands, table_of, Accepts}
use Rattle.acceptance.proofs.Standing.{table_stands}
use Rattle.radio_laws.specs.OptionByOption.{Holds, first, later}

-- a type of option of which a radio control message has one for each channel, named in its content's first byte
pub record ForChannels (kind : ℕ) : Type 0 where
  pub is_known : among kind known ≡ true
  pub listed : among kind (may_hold planes.Control ends.Radio) ≡ true
  pub each : among kind (one_for_each planes.Control) ≡ true
  pub not_empty : length_listed kind 0 ≡ false

module _ (kind : ℕ) (k : ForChannels kind) where
  speaks_own : (n : ℕ) (content : List ℕ) → get_or content 0 0 ≡ n → speaks planes.Control ends.Radio kind n kind content ≡ true
  speaks_own n content e = rw (eq-eqb kind kind refl, k.is_known, k.listed, k.each, eq-eqb n (get_or content 0 0) (sym e))

  spoken : (n other : ℕ) (content : List ℕ) → speaks planes.Control ends.Radio kind n other content ≡ true → (kind ≡ other) × (n ≡ get_or content 0 0)
  spoken n other content e = go (eqb kind other) refl e
    where
      own : kind ≡ other → is_at n (speaks_for planes.Control ends.Radio other content) ≡ true → n ≡ get_or content 0 0
      own same s = eqb-true n (get_or content 0 0) (rw (← same, k.is_known, k.listed, k.each) at s)

      go : (b : Bool) → eqb kind other ≡ b → cond b (is_at n (speaks_for planes.Control ends.Radio other content)) false ≡ true → (kind ≡ other) × (n ≡ get_or content 0 0)
      go true p s = let same : kind ≡ other = eqb-true kind other p in (same, own same s)
      go false p s = clash s

  module _ (n : ℕ) (content : List ℕ) where
    holds_stands : (f : Options) → Holds kind content f → n ≡ get_or content 0 0 → Stands planes.Control ends.Radio kind n content f
    unfolding Stands
    holds_stands _ first e = inl (speaks_own n content (sym e), refl)
    holds_stands _ (later {more = f} h) e = inr (holds_stands f h e)

    stands_holds : (f : Options) → Stands planes.Control ends.Radio kind n content f → Holds kind content f × (n ≡ get_or content 0 0)
    unfolding Stands
    stands_holds done x = absurd x
    stands_holds (cut rest) x = absurd x
    stands_holds (option other bytes f) (inl x) =
        let s = spoken n other bytes x.0 in
        (rw (← s.0, x.1) first, rw (← x.1) s.1)
    stands_holds (option other bytes f) (inr x) = let h = stands_holds f x in (later h.0, h.1)

-- what stands behind an option of another channel
pub elsewhere : {kind k n m : ℕ} {rest r : List ℕ} {f : Options} → (n ≡ m → ⊥) → Holds k (m ∷ r) (option kind (n ∷ rest) f) → Holds k (m ∷ r) f
elsewhere apart first = absurd (apart refl)
elsewhere apart (later h) = h

-- each option that stands in it is listed
pub holds_listed : {kind : ℕ} {content : List ℕ} (f : Options) → All (Listed planes.Control ends.Radio) f → Holds kind content f → Listed planes.Control ends.Radio kind content
holds_listed _ l first = l.0
holds_listed _ l (later {more = f} h) = holds_listed f l.1 h

module _ (kind : ℕ) (k : ForChannels kind) (id : DatalinkId) (datagram : List ℕ) (f : Options) (a : Accepts planes.Control ends.Radio id datagram f) (n : ℕ) where
  -- what stands in it for a channel is what its table says
  pub says : (rest : List ℕ) → Holds kind (n ∷ rest) f → table_of planes.Control ends.Radio f kind n ≡ Some (n ∷ rest)
  says rest h = (table_stands planes.Control ends.Radio id datagram f a kind n (n ∷ rest)).1 (holds_stands kind k n (n ∷ rest) f h refl)

  -- and what its table says stands in it
  pub said : (content : List ℕ) → table_of planes.Control ends.Radio f kind n ≡ Some content → (rest : List ℕ) × (content ≡ n ∷ rest) × Holds kind (n ∷ rest) f
  said content e =
      let h = stands_holds kind k n content f ((table_stands planes.Control ends.Radio id datagram f a kind n content).0 e) in
      go content h.1 h.0
    where
      go : (content : List ℕ) → n ≡ get_or content 0 0 → Holds kind content f → (rest : List ℕ) × (content ≡ n ∷ rest) × Holds kind (n ∷ rest) f
      go [] e h = clash (sym k.not_empty ∙ (holds_listed f a.listed h).length_listed_lem k.is_known)
      go (x ∷ rest) e h = (rest, rw e, rw e h)

-- ---- the same options for a channel are the same row of the table
alike : (x y : Option (List ℕ)) → ((content : List ℕ) → x ≡ Some content → y ≡ Some content) → ((content : List ℕ) → y ≡ Some content → x ≡ Some content) → x ≡ y
alike None None to back = refl
alike None (Some content) to back = back content refl
alike (Some content) y to back = sym (to content refl)

module _ (kind : ℕ) (k : ForChannels kind) (id : DatalinkId) (datagram other : List ℕ) (f g : Options)
    (a : Accepts planes.Control ends.Radio id datagram f) (b : Accepts planes.Control ends.Radio id other g) (n : ℕ) where
  pub said_alike : ((rest : List ℕ) → Holds kind (n ∷ rest) f ↔ Holds kind (n ∷ rest) g) → table_of planes.Control ends.Radio f kind n ≡ table_of planes.Control ends.Radio g kind n
  said_alike same =
      alike (table_of planes.Control ends.Radio f kind n) (table_of planes.Control ends.Radio g kind n)
      (λ content e. let t = said kind k id datagram f a n content e in rw t.1 (says kind k id other g b n t.0 ((same t.0).0 t.2)))
      (λ content e. let t = said kind k id other g b n content e in rw t.1 (says kind k id datagram f a n t.0 ((same t.0).1 t.2)))

-- ---- options of which a message has one for all channels

pub record ForMessage (kind : ℕ) : Type 0 where
  pub is_known : among kind known ≡ true
  pub listed : among kind (may_hold planes.Control ends.Radio) ≡ true
  pub once : among kind (one_for_each planes.Control) ≡ false

module _ (kind : ℕ) (k : ForMessage kind) (content : List ℕ) where
  once_stands : (f : Options) → Holds kind content f → Stands planes.Control ends.Radio kind 0 content f
  unfolding Stands
  once_stands _ first = inl (rw (eq-eqb kind kind refl, k.is_known, k.listed, k.once), refl)
  once_stands _ (later {more = f} h) = inr (once_stands f h)

  stands_once : (f : Options) → Stands planes.Control ends.Radio kind 0 content f → Holds kind content f
  unfolding Stands
  stands_once done x = absurd x
  stands_once (cut rest) x = absurd x
  stands_once (option other bytes f) (inl x) = let same : kind ≡ other = of_kind (eqb kind other) refl x.0 in rw (← same, x.1) first
    where
      of_kind : (b : Bool) → eqb kind other ≡ b → cond b (is_at 0 (speaks_for planes.Control ends.Radio other bytes)) false ≡ true → kind ≡ other
      of_kind true p s = eqb-true kind other p
      of_kind false p s = clash s
  stands_once (option other bytes f) (inr x) = later (stands_once f x)

module _ (kind : ℕ) (k : ForMessage kind) (id : DatalinkId) (datagram : List ℕ) (f : Options) (a : Accepts planes.Control ends.Radio id datagram f) where
  pub says_once : (content : List ℕ) → Holds kind content f → table_of planes.Control ends.Radio f kind 0 ≡ Some content
  says_once content h = (table_stands planes.Control ends.Radio id datagram f a kind 0 content).1 (once_stands kind k content f h)

  pub said_once : ((content : List ℕ) → Holds kind content f → ⊥) → table_of planes.Control ends.Radio f kind 0 ≡ None
  said_once never = go (table_of planes.Control ends.Radio f kind 0) refl
    where
      go : (x : Option (List ℕ)) → table_of planes.Control ends.Radio f kind 0 ≡ x → x ≡ None
      go None e = refl
      go (Some content) e = absurd (never content (stands_once kind k content f ((table_stands planes.Control ends.Radio id datagram f a kind 0 content).0 e)))
