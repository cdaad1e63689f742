-- Order, unused bits and skipped options change neither what is allowed nor what is stated. Assumes nothing.
use Rattle.std.specs.Prelude.{Option, Some, None}
use Prim.Native.Nat.{ℕ, ◌+◌, ◌%◌, ◌≤◌}
use mathlib.Core.Path.{◌≡◌, refl, sym, ap, ◌∙◌}
use mathlib.Core.Logic.{◌↔◌}
use mathlib.Core.List.{List, [], ◌∷◌}
use mathlib.Core.Bool.{Bool, true, false, cond}
use native.Mathlib.Omega.{arith}
use lib.Dec.{eqb}
use lib.ListN.{length, get_or}
use Rattle.quantity.specs.declared.count.DatalinkId.{DatalinkId}
use Rattle.quantity.specs.Limits.{LONGEST-DATAGRAM}
use Rattle.wire.specs.Options.{Options, bytes}
use Rattle.meaning.specs.declared.message.End.{End}
use Rattle.meaning.specs.declared.message.Plane.{Plane}
use Rattle.meaning.specs.declared.message.Plane.TheVariants as planes
use Rattle.meaning.specs.Kinds.{value_listed, must_hold, DATALINK-IDENTIFIER, CHANNEL-STATUS, CHANNEL-IDENTIFIER, FLOW-SEQUENCE}
use Rattle.read_option.specs.Stated.{Table, status_from}
use Rattle.read_rules.specs.Sorts.{Sort, rules_of}
use Rattle.reader.specs.Header.{CURRENT-VERSION, version_of, flag_of, flag, read_with}
use Rattle.acceptance.specs.Account.{All, Listed, is_at, speaks_for, one, speaks, count, the, table_of, Ending, Filled, Paired, Accepts, Shuffled}
use Rattle.acceptance.proofs.Lists.{unknown_listed}
use Rattle.acceptance.proofs.Seats.{taken_free, silent}
use Rattle.acceptance.proofs.Cells.{Cells}
use Rattle.acceptance.proofs.Account.{⇒accepted}

-- a content without unused bits
abbrev pub bare : ℕ → Option (List ℕ) → Option (List ℕ)
bare kind None = None
bare kind (Some content) = Some (cond (eqb kind CHANNEL-STATUS) (get_or content 0 0 ∷ (get_or content 1 0 % 16 ∷ [])) content)

module _ (plane : Plane) (end : End) where
  unused_listed : {n a b : ℕ} → Listed plane end CHANNEL-STATUS (n ∷ (a ∷ [])) → Listed plane end CHANNEL-STATUS (n ∷ (b ∷ []))
  unfolding value_listed
  unused_listed l = record { kind_listed = l.kind_listed; length_listed_lem = l.length_listed_lem; value_listed_lem = l.value_listed_lem }

  listeds : {f g : Options} → Shuffled plane end f g → All (Listed plane end) f ↔ All (Listed plane end) g
  listeds Shuffled.same = ((λ l. l), λ l. l)
  listeds (Shuffled.flip s) = let e = listeds s in (e.1, e.0)
  listeds (Shuffled.chain s r) = let e = listeds s in let d = listeds r in ((λ l. d.0 (e.0 l)), λ l. e.1 (d.1 l))
  listeds (Shuffled.under s) = let e = listeds s in ((λ l. (l.0, e.0 l.1)), λ l. (l.0, e.1 l.1))
  listeds Shuffled.swap = ((λ l. (l.1.0, (l.0, l.1.1))), λ l. (l.1.0, (l.0, l.1.1)))
  listeds (Shuffled.unused e) = ((λ l. (unused_listed l.0, l.1)), λ l. (unused_listed l.0, l.1))
  listeds (Shuffled.skip {t} {c} e) = ((λ l. l.1), λ l. (unknown_listed plane end t c e, l))

  module _ (k n : ℕ) where
    counts : {f g : Options} → Shuffled plane end f g → count plane end k n f ≡ count plane end k n g
    unfolding count
    counts Shuffled.same = refl
    counts (Shuffled.flip s) = sym (counts s)
    counts (Shuffled.chain s r) = counts s ∙ counts r
    counts (Shuffled.under {t} {c} s) = ap (λ (m : ℕ). one (speaks plane end k n t c) + m) (counts s)
    counts Shuffled.swap = omega arith
    counts (Shuffled.unused e) = refl
    counts (Shuffled.skip {t} {c} e) = rw (silent plane end t c e k n) (omega arith)

    thes : {f g : Options} → Shuffled plane end f g → count plane end k n f ≤ 1 → bare k (the plane end k n f) ≡ bare k (the plane end k n g)
    unfolding the count
    thes Shuffled.same h = refl
    thes (Shuffled.flip s) h = sym (thes s (rw (counts s) h))
    thes (Shuffled.chain s r) h = thes s h ∙ thes r (rw (counts s) at h)
    thes (Shuffled.under {t} {c} {f} {g} s) h = go (speaks plane end k n t c) (thes s (omega arith))
      where
        go : (b : Bool) → bare k (the plane end k n f) ≡ bare k (the plane end k n g)
            → bare k (cond b (Some c) (the plane end k n f)) ≡ bare k (cond b (Some c) (the plane end k n g))
        go true e = refl
        go false e = e
    thes (Shuffled.swap {t} {u} {c} {d} {f}) h = ap (bare k) (go (speaks plane end k n t c) (speaks plane end k n u d) h)
      where
        go : (a b : Bool) → one a + (one b + count plane end k n f) ≤ 1
            → cond a (Some c) (cond b (Some d) (the plane end k n f)) ≡ cond b (Some d) (cond a (Some c) (the plane end k n f))
        go true true q = absurd (omega arith)
        go true false q = refl
        go false b q = refl
    thes (Shuffled.unused {n = m} {a} {b} {f} e) h = go (eqb k CHANNEL-STATUS) (is_at n (speaks_for plane end CHANNEL-STATUS (m ∷ (a ∷ [])))) refl
      where
        go : (same speaking : Bool) → eqb k CHANNEL-STATUS ≡ same
            → bare k (cond (cond same speaking false) (Some (m ∷ (a ∷ []))) (the plane end k n f)) ≡ bare k (cond (cond same speaking false) (Some (m ∷ (b ∷ []))) (the plane end k n f))
        go true true q = rw (q, e)
        go true false q = refl
        go false speaking q = refl
    thes (Shuffled.skip {t} {c} {f} e) h = rw (silent plane end t c e k n)

-- ---- two tables that differ in unused bits alone

-- The unused bits of a Channel Status carry no meaning.
pub status_unused : (n a b : ℕ) → a % 16 ≡ b % 16 → status_from (Some (n ∷ (a ∷ []))) ≡ status_from (Some (n ∷ (b ∷ [])))
status_unused n a b e = ap Some e

bare_status : (x : Option (List ℕ)) → status_from (bare CHANNEL-STATUS x) ≡ status_from x
bare_status None = refl
bare_status (Some content) = ap Some (omega arith)

bare_other : (kind : ℕ) → eqb kind CHANNEL-STATUS ≡ false → (x : Option (List ℕ)) → bare kind x ≡ x
bare_other kind e None = refl
bare_other kind e (Some content) = rw e

bare_none : (kind : ℕ) (x : Option (List ℕ)) → bare kind x ≡ None → x ≡ None
bare_none kind None e = refl
bare_none kind (Some content) e = taken_free e

abbrev pub Alike : Table → Table → Type 0
Alike τ σ = (kind channel : ℕ) → bare kind (τ kind channel) ≡ bare kind (σ kind channel)

module _ (τ σ : Table) (alike : Alike τ σ) where
  pub others : (kind channel : ℕ) → eqb kind CHANNEL-STATUS ≡ false → τ kind channel ≡ σ kind channel
  others kind channel e = sym (bare_other kind e (τ kind channel)) ∙ alike kind channel ∙ bare_other kind e (σ kind channel)

  pub status_same : (n : ℕ) → status_from (τ CHANNEL-STATUS n) ≡ status_from (σ CHANNEL-STATUS n)
  status_same n = sym (bare_status (τ CHANNEL-STATUS n)) ∙ ap status_from (alike CHANNEL-STATUS n) ∙ bare_status (σ CHANNEL-STATUS n)

  still_filled : (kinds : List ℕ) → Filled kinds τ → Filled kinds σ
  still_filled [] f = tt
  still_filled (kind ∷ kinds) f = ((λ e. f.0 (bare_none kind (τ kind 0) (alike kind 0 ∙ ap (bare kind) e))), still_filled kinds f.1)

  still_paired : (plane : Plane) → Paired plane τ → Paired plane σ
  still_paired planes.Control p = tt
  still_paired planes.Data p = rw (others FLOW-SEQUENCE 0 refl, others CHANNEL-IDENTIFIER 0 refl) at p

-- ---- a datagram

pub tables_alike : (plane : Plane) (end : End) (id : DatalinkId) (s : List ℕ) (f g : Options) → Accepts plane end id s f → Shuffled plane end f g
    → Alike (table_of plane end f) (table_of plane end g)
tables_alike plane end id s f g a x k n = thes plane end k n x (a.once k n)

-- what is allowed is allowed in any order, behind any header of the version and plane
pub still_allowed : (plane : Plane) (end : End) (id : DatalinkId) (s : List ℕ) (f g : Options) (header : ℕ) → Accepts plane end id s f → Shuffled plane end f g
    → Ending plane g → version_of header ≡ CURRENT-VERSION → flag_of header ≡ flag plane → length (header ∷ bytes g) ≤ LONGEST-DATAGRAM
    → Accepts plane end id (header ∷ bytes g) g
still_allowed plane end id s f g header a x d v p h =
    let alike : Alike (table_of plane end f) (table_of plane end g) = tables_alike plane end id s f g a x in
    record {
      header = header;
      version = v;
      of_plane = p;
      whole = refl;
      short = h;
      listed = (listeds plane end x).0 a.listed;
      once = λ k n. rw (← counts plane end k n x) (a.once k n);
      ending = d;
      filled = still_filled (table_of plane end f) (table_of plane end g) alike (must_hold plane end) a.filled;
      paired = still_paired (table_of plane end f) (table_of plane end g) alike plane a.paired;
      ours = rw (others (table_of plane end f) (table_of plane end g) alike DATALINK-IDENTIFIER 0 refl) at a.ours;
    }

-- and the answer is the same, for any sort of message that is filled alike from tables that are alike
module _ {A B : Type 0} (S : Sort A B) (id : DatalinkId) (stated : Table → A) (C : Cells S id stated) (same : (τ σ : Table) → Alike τ σ → stated τ ≡ stated σ) where
  pub reordered : (s : List ℕ) (f g : Options) (header : ℕ) → Accepts S.plane S.end id s f → Shuffled S.plane S.end f g
      → Ending S.plane g → version_of header ≡ CURRENT-VERSION → flag_of header ≡ flag S.plane → length (header ∷ bytes g) ≤ LONGEST-DATAGRAM
      → read_with (rules_of S) (header ∷ bytes g) ≡ read_with (rules_of S) s
  reordered s f g header a x d v p h =
      ⇒accepted S id stated C (header ∷ bytes g) g (still_allowed S.plane S.end id s f g header a x d v p h)
      ∙ ap S.accept (sym (same (table_of S.plane S.end f) (table_of S.plane S.end g) (tables_alike S.plane S.end id s f g a x)))
      ∙ sym (⇒accepted S id stated C s f a)
