-- The account, option by option: which options may follow what a table of contents holds already. Assumes nothing.
use Rattle.std.specs.Prelude.{Option, Some, None}
use Prim.Native.Nat.{ℕ, ◌+◌, ◌≤◌}
use mathlib.Core.Path.{◌≡◌, refl}
use mathlib.Core.Logic.{◌↔◌}
use mathlib.Core.List.{List}
use mathlib.Core.Bool.{Bool, true, false, cond}
use native.Mathlib.Omega.{arith}
use borrow.Author.Tests.{eq-eqb, eqb-true}
use lib.Dec.{eqb}
use Rattle.facts.proofs.Tests.{clash}
use Rattle.quantity.specs.declared.count.DatalinkId.{DatalinkId}
use Rattle.wire.specs.Options.{Options, done, cut, option}
use Rattle.meaning.specs.declared.message.End.{End}
use Rattle.meaning.specs.declared.message.Plane.{Plane}
use Rattle.meaning.specs.Kinds.{among, stands_last, must_hold}
use Rattle.read_option.specs.Stated.{Table}
use Rattle.acceptance.specs.Account.{All, Listed, is_at, speaks_for, one, speaks, count, the, Ending, Filled, Paired, Ours}
use Rattle.acceptance.proofs.Lists.{last_speaks}
use Rattle.acceptance.proofs.Seats.{taken_free, Free, adding}

-- ---- one place of a table

abbrev pub taken : Option (List ℕ) → ℕ
taken None = 0
taken (Some content) = 1

abbrev pub or : Option (List ℕ) → Option (List ℕ) → Option (List ℕ)
or None y = y
or (Some content) y = Some content

or_none : (x : Option (List ℕ)) → or x None ≡ x
or_none None = refl
or_none (Some content) = refl

pub at_most : (x : Option (List ℕ)) → taken x + 0 ≤ 1
at_most None = omega arith
at_most (Some content) = omega arith

-- there is room for an option that speaks for the place (b) and for n more where the place is free, and there is room for them behind it
sits : (b : Bool) (x : Option (List ℕ)) (content : List ℕ) (n : ℕ) → taken x + (one b + n) ≤ 1 ↔ (b ≡ true → x ≡ None) × (taken (cond b (Some content) x) + n ≤ 1)
sits false x content n = ((λ h. ((λ e. clash e), omega arith)), λ h. omega arith)
sits true None content n = ((λ h. ((λ e. refl), omega arith)), λ h. omega arith)
sits true (Some other) content n = ((λ h. absurd (omega arith)), λ h. taken_free (h.0 refl))

same : (b : Bool) (x y : Option (List ℕ)) (content : List ℕ) (n : ℕ) → taken x + (one b + n) ≤ 1 → or (cond b (Some content) x) y ≡ or x (cond b (Some content) y)
same false x y content n h = refl
same true None y content n h = refl
same true (Some other) y content n h = absurd (omega arith)

-- ---- a table, and the options that follow

-- nothing that stands last is stated yet
abbrev pub Open : Plane → Table → Type 0
Open plane τ = (kind : ℕ) → among kind (stands_last plane) ≡ true → τ kind 0 ≡ None

module _ (plane : Plane) (end : End) where
  -- the two together have at most one for each type and channel
  abbrev pub Room : Table → Options → Type 0
  Room τ f = (k n : ℕ) → taken (τ k n) + count plane end k n f ≤ 1

  -- the table with all the options
  abbrev pub plus : Table → Options → Table
  plus τ f = λ k n. or (τ k n) (the plane end k n f)

  -- before an option, nothing stands that has to be the last
  abbrev pub Opens : Table → Options → Type 0
  Opens τ done = Unit {0}
  Opens τ (cut rest) = Unit {0}
  Opens τ (option kind content f) = Open plane τ

  pub plus_done : (τ : Table) → plus τ done ≡ τ
  unfolding the
  plus_done τ = λ i k n. or_none (τ k n) i

  module _ (τ : Table) (kind : ℕ) (content : List ℕ) where
    pub plus_option : (f : Options) → Room τ (option kind content f) → plus (adding plane end kind content τ) f ≡ plus τ (option kind content f)
    unfolding the count
    plus_option f room = λ i k n. same (speaks plane end k n kind content) (τ k n) (the plane end k n f) content (count plane end k n f) (room k n) i

    pub room_option : (f : Options) → Room τ (option kind content f) ↔ Free plane end kind content τ × Room (adding plane end kind content τ) f
    unfolding count
    room_option f = ((λ room. ((λ k n. ((seat k n).0 (room k n)).0), λ k n. ((seat k n).0 (room k n)).1)), λ h k n. (seat k n).1 (h.0 k n, h.1 k n))
      where
        seat : (k n : ℕ) → taken (τ k n) + (one (speaks plane end k n kind content) + count plane end k n f) ≤ 1
            ↔ (speaks plane end k n kind content ≡ true → τ k n ≡ None) × (taken (adding plane end kind content τ k n) + count plane end k n f ≤ 1)
        seat k n = sits (speaks plane end k n kind content) (τ k n) content (count plane end k n f)

    -- no option stands behind one that stands last
    pub still_open : (f : Options) → Open plane τ → (among kind (stands_last plane) ≡ true → f ≡ done) → Opens (adding plane end kind content τ) f
    still_open done o h = tt
    still_open (cut rest) o h = tt
    still_open (option u d f) o h = λ k q. go k q (eqb k kind) refl
      where
        go : (k : ℕ) → among k (stands_last plane) ≡ true → (b : Bool) → eqb k kind ≡ b
            → cond (cond b (is_at 0 (speaks_for plane end kind content)) false) (Some content) (τ k 0) ≡ None
        go k q false e = o k q
        go k q true e = let x : option u d f ≡ done = h (rw (eqb-true k kind e) at q) in clash (cc)

    pub ended : (f : Options) → All (Listed plane end) f → Opens (adding plane end kind content τ) f → among kind (stands_last plane) ≡ true → f ≡ done
    ended done l o h = refl
    ended (cut rest) l o h = absurd l
    ended (option u d f) l o h = taken_free (rw (last_speaks plane end content kind h, eq-eqb kind kind refl) at (o kind h))

-- ---- what is allowed

-- an option may follow
pub record Admitted (plane : Plane) (end : End) (τ : Table) (kind : ℕ) (content : List ℕ) : Type 0 where
  pub listed : Listed plane end kind content
  pub free : Free plane end kind content τ
  pub opens : Open plane τ

-- no option needs to follow
pub record Complete (plane : Plane) (end : End) (id : DatalinkId) (τ : Table) : Type 0 where
  pub filled : Filled (must_hold plane end) τ
  pub paired : Paired plane τ
  pub ours : Ours id τ

-- the rest of a body has no fault
pub record Faultless (plane : Plane) (end : End) (τ : Table) (f : Options) : Type 0 where
  pub listed : All (Listed plane end) f
  pub room : Room plane end τ f
  pub opens : Opens plane end τ f
  pub ending : Ending plane f

-- the rest of a body may follow, and nothing is missing then
pub record Allowed (plane : Plane) (end : End) (id : DatalinkId) (τ : Table) (f : Options) : Type 0 where
  pub faultless : Faultless plane end τ f
  pub complete : Complete plane end id (plus plane end τ f)

module _ (plane : Plane) (end : End) where
  pub faultless_done : (τ : Table) → Faultless plane end τ done
  unfolding count
  faultless_done τ = record { listed = tt; room = λ k n. at_most (τ k n); opens = tt; ending = tt }

  pub faultless_option : (τ : Table) (kind : ℕ) (content : List ℕ) (f : Options)
      → Faultless plane end τ (option kind content f) ↔ Admitted plane end τ kind content × Faultless plane end (adding plane end kind content τ) f
  faultless_option τ kind content f = (forth, λ h. back h.0 h.1)
    where
      forth : Faultless plane end τ (option kind content f) → Admitted plane end τ kind content × Faultless plane end (adding plane end kind content τ) f
      forth w =
          let r = (room_option plane end τ kind content f).0 w.room in (
            record { listed = w.listed.0; free = r.0; opens = w.opens },
            record { listed = w.listed.1; room = r.1; opens = still_open plane end τ kind content f w.opens w.ending.0; ending = w.ending.1 },
          )

      back : Admitted plane end τ kind content → Faultless plane end (adding plane end kind content τ) f → Faultless plane end τ (option kind content f)
      back a w = record {
        listed = (a.listed, w.listed);
        room = (room_option plane end τ kind content f).1 (a.free, w.room);
        opens = a.opens;
        ending = (ended plane end τ kind content f w.listed w.opens, w.ending);
      }

  module _ (id : DatalinkId) where
    pub allowed_done : (τ : Table) → Allowed plane end id τ done ↔ Complete plane end id τ
    allowed_done τ = ((λ w. rw plus_done at w.complete), λ c. record { faultless = faultless_done τ; complete = rw (plus_done plane end τ) c })

    pub allowed_option : (τ : Table) (kind : ℕ) (content : List ℕ) (f : Options)
        → Allowed plane end id τ (option kind content f) ↔ Admitted plane end τ kind content × Allowed plane end id (adding plane end kind content τ) f
    allowed_option τ kind content f = (forth, λ h. back h.0 h.1)
      where
        forth : Allowed plane end id τ (option kind content f) → Admitted plane end τ kind content × Allowed plane end id (adding plane end kind content τ) f
        forth w =
            let both = (faultless_option τ kind content f).0 w.faultless in
            (both.0, record { faultless = both.1; complete = rw (plus_option plane end τ kind content f w.faultless.room) w.complete })

        back : Admitted plane end τ kind content → Allowed plane end id (adding plane end kind content τ) f → Allowed plane end id τ (option kind content f)
        back a w =
            let whole = (faultless_option τ kind content f).1 (a, w.faultless) in
            record { faultless = whole; complete = rw (plus_option plane end τ kind content f whole.room) at w.complete }
